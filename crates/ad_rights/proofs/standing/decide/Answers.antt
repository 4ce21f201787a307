use Rattle.std.proofs.Common.{◌≡◌, ◌∙◌, ℕ, Bool, List, length, refl, sym, ap, arith}
use Rattle.std.specs.Prelude.{◌==◌, slice_index}
use Rattle.std.proofs.lemmas.List.{take_all}
use Rattle.std.proofs.lemmas.List.Folds.{list_any_more}
use Rattle.ad_rights.specs.Holding.{has}
use Rattle.ad_rights.specs.Standing.{stand_at, decided}
use Rattle.ad_rights.proofs.Deciding.{decided_none, decided_twice}
use Rattle.std.specs.Prelude.{take}
use Rattle.ad_rights.proofs.standing.decide.Goals as goal

pub loop-place-init : goal.loop-place-init
loop-place-init c = record {
  len = refl;
  each = λ q lt. sym (decided_none c.args.allow (stand_at c.args.stands.now q));
}

pub loop-place-preserved : goal.loop-place-preserved
loop-place-preserved c =
    let l = c.loop-place in
    let places : List ℕ = c.args.places.now in
    let x : ℕ = slice_index c.args.places.now l.place-index in
    record {
      len = c.decide_one.ensures.len ∙ l.invariant.len;
      each = λ q lt.
          c.decide_one.ensures.each q (omega (arith, lt, l.invariant.len))
          ∙ ap (decided (x == q) c.args.allow) (l.invariant.each q lt)
          ∙ decided_twice (has (take l.place-index places) q) (x == q) c.args.allow (stand_at c.args.stands.now q)
          ∙ ap (λ (b : Bool). decided b c.args.allow (stand_at c.args.stands.now q))
          (sym (list_any_more (λ (p : ℕ). p == q) places l.place-index 0 c.loop-place-test.true));
    }

pub returns : goal.returns
returns c =
    let l = c.loop-place in
    record {
      len = l.invariant.len;
      each = λ q lt.
          l.invariant.each q lt
          ∙ ap (λ (ps : List ℕ). decided (has ps q) c.args.allow (stand_at c.args.stands.now q))
          (take_all l.place-index c.args.places.now c.loop-place-test.false);
    }
