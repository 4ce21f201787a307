use Rattle.std.proofs.Common.{◌≡◌, List, [], ◌∷◌, ◌++◌, length, ap, ◌∙◌, arith}
use Rattle.ad_schema.specs.declared.line.Line.{Line}
use Rattle.ad_schema.specs.declared.line.SchemaRecord.{SchemaRecord}
use Rattle.ad_schema.proofs.SoundLemmas.{one_added}
use Rattle.ad_schema.specs.declared.line.SchemaKind.TheVariants.{Attribute, Class}
use Rattle.ad_schema.proofs.BuilderLemmas.{names_few, keys_few}
use Rattle.ad_schema.proofs.builder.Builder.add.Goals as goal

pub note-requires-clause-attrs : goal.note-requires-clause-attrs
note-requires-clause-attrs c = omega (
  arith,
  names_few Attribute _ _ c.self.invariant.titles.attrs_are,
  ap length
      c.self.view_is,
)

pub note-requires-clause-classes : goal.note-requires-clause-classes
note-requires-clause-classes c = omega (
  arith,
  names_few Class _ _ c.self.invariant.titles.classes_are,
  ap length
      c.self.view_is,
)

pub note-requires-clause-rights : goal.note-requires-clause-rights
note-requires-clause-rights c = omega (arith, keys_few _ _ c.self.invariant.titles.rights_are, ap length c.self.view_is)

pub invariant_of-self-2 : goal.invariant_of-self-2
invariant_of-self-2 c =
    let records = c.self.inside.records.items in
    let new : c.push.new.self.items ≡ records ++ record { kind = c.args.kind; lines = c.args.lines.now } ∷ [] =
    c.in_ok-push.ensures.items ∙ ap (λ (rs : List SchemaRecord). rs
    ++ record { kind = c.args.kind; lines = c.in_ok-copy.copy } ∷ []) c.in_ok-reserve.ensures.items
    ∙ ap (λ (ls : List Line). records ++ record { kind = c.args.kind; lines = ls } ∷ []) c.in_ok-copy.ensures in
    record {
      titles = rw new (c.in_ok-note.ensures.ok records c.self.invariant.titles);
      added = one_added records c.push.new.self.items c.args.kind c.args.lines.now new c.self.invariant.added
          (omega (arith, c.requires, ap length c.self.view_is)) c.in_ok-check.ensures
          (c.in_ok-note.ensures.fault records c.self.invariant.titles);
    }
