use Rattle.std.proofs.Common.{List, [], length, map, sym, ap, ◌∙◌, ◌≡◌, ◌∷◌, arith}
use Rattle.std.specs.Vec.Iter.{into_iter_items}
use Rattle.std.proofs.lemmas.Result.{err_from_is_err_and}
use Rattle.ad_dir_objects.specs.Seen.{held_seen}
use Rattle.ad_load_objects.specs.declared.drafts.Given.{Given as HeldGiven}
use Rattle.ad_load_objects.specs.Through.{through}
use Rattle.ad_load.specs.Links.{with_given, all_stored}
use Rattle.ad_load_objects.specs.Seen.{given_seen}
use Rattle.ad_load_objects.proofs.Through.{taken_through, taken_stops, all_taken}
use Rattle.ad_load.proofs.links.few_stored.Goals as goal

pub returns-in_err-add_given : goal.returns-in_err-add_given
unfolding all_stored
returns-in_err-add_given g c =
    let p = err_from_is_err_and c.from_residual-in_err-add_given.result c.from_residual-in_err-add_given.ensures.1 in
    let at = c.loop-one in
    let step = with_given c.args.schema.now g.all in
    let all = ap (λ (gs : List HeldGiven). through step [] (map given_seen gs))
    (sym c.into_iter-one-iterator.ensures.into_iter_gives.0) in
    rw (p.1, p.2) (λ m. all ∙ sym at.invariant.made ∙ taken_stops step given_seen (into_iter_items at.one-iterator)
    (into_iter_items c.next.new.self) c.in-Some.one
    (map held_seen at.values.items) c.in_err-add_given.field-0.0 c.in-Some.ensures.steps.0
    (c.in_err-add_given.ensures m))

pub loop-one-preserved : goal.loop-one-preserved
loop-one-preserved g c =
    let at = c.loop-one in
    let steps : into_iter_items at.one-iterator ≡ c.in-Some.one ∷ into_iter_items c.next.new.self
    = c.in-Some.ensures.steps.0 in
    record {
      made =
          sym (taken_through (with_given c.args.schema.now g.all) given_seen (into_iter_items at.one-iterator)
          (into_iter_items c.next.new.self) c.in-Some.one
          (map held_seen at.values.items) (map held_seen c.add_given.new.values.items) steps c.in_ok-add_given.ensures)
          ∙ at.invariant.made;
      len = omega (arith, ap length steps, c.in-Some.ensures.steps.1, at.invariant.len);
    }

pub returns : goal.returns
unfolding all_stored
returns g c =
    let at = c.loop-one in
    let step = with_given c.args.schema.now g.all in
    let all = ap (λ (gs : List HeldGiven). through step [] (map given_seen gs))
    (sym c.into_iter-one-iterator.ensures.into_iter_gives.0) in
    all ∙ sym at.invariant.made ∙ all_taken step given_seen (into_iter_items at.one-iterator)
    (map held_seen at.values.items) (sym at.invariant.len ∙ c.in-None.ensures.steps.0)
