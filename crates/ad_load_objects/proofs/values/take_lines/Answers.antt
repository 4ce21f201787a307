use Rattle.std.proofs.Common.{◌≡◌, ◌∷◌, List, length, map, sym, ap, ◌∙◌, arith}
use Rattle.std.specs.Vec.Iter.{into_iter_items}
use Rattle.std.proofs.lemmas.Result.{err_from_is_err_and}
use Rattle.ad_ldif.specs.declared.record.LdifLine.{LdifLine as HeldLine}
use Rattle.ad_load_records.specs.Seen.{held_field}
use Rattle.ad_load_objects.specs.Through.{through}
use Rattle.ad_load_objects.specs.Index.{drafts_seen}
use Rattle.ad_load_objects.specs.Objects.{nothing_kept, with_line, with_lines}
use Rattle.ad_load_objects.specs.KeptSeen.{kept_seen}
use Rattle.ad_load_objects.proofs.Through.{taken_through, taken_stops, all_taken}
use Rattle.ad_load_objects.proofs.values.take_lines.Goals as goal

pub returns-in_err-take_line-clause-made : goal.returns-in_err-take_line-clause-made
unfolding with_lines
returns-in_err-take_line-clause-made c =
    let p = err_from_is_err_and c.from_residual-in_err-take_line.result c.from_residual-in_err-take_line.ensures.1 in
    let at = c.loop-field in
    let step = with_line c.args.schema.now (drafts_seen c.args.drafts.now) c.args.class.0 in
    let all = ap (λ (fs : List HeldLine). through step nothing_kept (map held_field fs))
    (sym c.into_iter-field-iterator.ensures.into_iter_gives.0) in
    rw (p.1, p.2) (λ m. all ∙ sym at.invariant.made ∙ taken_stops step held_field (into_iter_items at.field-iterator)
    (into_iter_items c.next.new.self) c.in-Some.field
    (kept_seen at.kept) c.in_err-take_line.field-0.0 c.in-Some.ensures.steps.0 (c.in_err-take_line.ensures.made m))

pub loop-field-preserved : goal.loop-field-preserved
loop-field-preserved c =
    let at = c.loop-field in
    let steps : into_iter_items at.field-iterator ≡ c.in-Some.field ∷ into_iter_items c.next.new.self
    = c.in-Some.ensures.steps.0 in
    record {
      made =
          sym (taken_through (with_line c.args.schema.now (drafts_seen c.args.drafts.now) c.args.class.0) held_field
          (into_iter_items at.field-iterator) (into_iter_items c.next.new.self) c.in-Some.field
          (kept_seen at.kept) (kept_seen c.take_line.new.kept) steps c.in_ok-take_line.ensures.made)
          ∙ at.invariant.made;
      found = c.in_ok-take_line.ensures.found;
      len = omega (arith, ap length steps, c.in-Some.ensures.steps.1, at.invariant.len);
    }

pub returns-clause-made : goal.returns-clause-made
unfolding with_lines
returns-clause-made c =
    let at = c.loop-field in
    let step = with_line c.args.schema.now (drafts_seen c.args.drafts.now) c.args.class.0 in
    let all = ap (λ (fs : List HeldLine). through step nothing_kept (map held_field fs))
    (sym c.into_iter-field-iterator.ensures.into_iter_gives.0) in
    all ∙ sym at.invariant.made ∙ all_taken step held_field (into_iter_items at.field-iterator) (kept_seen at.kept)
    (sym at.invariant.len ∙ c.in-None.ensures.steps.0)
