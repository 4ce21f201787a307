use Rattle.std.proofs.Common.{◌≡◌, ℕ, List, true, false, sym, ap, ◌∙◌}
use Rattle.std.specs.Option.{is_some}
use Rattle.ad_schema.specs.declared.field.Field.TheVariants.{DisplayName}
use Rattle.ad_schema.specs.Fields.{text_of}
use Rattle.ad_schema_classes.specs.Names.{place_of}
use Rattle.ad_schema.specs.Records.{has_name}
use Rattle.ad_schema.proofs.BuilderLemmas.{taken, free}
use Rattle.ad_schema.proofs.builder.note_name.Goals as goal

pub returns-then-is_some-clause-fault : goal.returns-then-is_some-clause-fault
unfolding has_name
returns-then-is_some-clause-fault c = λ _.
    let same : c.in_ok-name.name ≡ text_of DisplayName c.args.lines.now = c.in_ok-name.ensures ∙ c.text_of.ensures in
    let found : is_some (place_of c.args.names.now (text_of DisplayName c.args.lines.now)) ≡ true =
    ap (λ (n : List ℕ). is_some (place_of c.args.names.now n)) (sym (c.as_slice.ensures ∙ same))
    ∙ ap is_some (sym c.find.ensures) ∙ sym c.is_some.ensures ∙ c.if-is_some.true in
    taken _ _ _ same found

pub returns-clause-fault : goal.returns-clause-fault
unfolding has_name
returns-clause-fault c =
    let same : c.in_ok-name.name ≡ text_of DisplayName c.args.lines.now = c.in_ok-name.ensures ∙ c.text_of.ensures in
    let found : is_some (place_of c.args.names.now (text_of DisplayName c.args.lines.now)) ≡ false =
    ap (λ (n : List ℕ). is_some (place_of c.args.names.now n)) (sym (c.as_slice.ensures ∙ same))
    ∙ ap is_some (sym c.find.ensures) ∙ sym c.is_some.ensures ∙ c.if-is_some.false in
    free _ _ found
