use Rattle.std.proofs.Common.{sym, ◌∙◌, arith}
use Rattle.std.proofs.lemmas.Result.{err_from_is_err_and}
use Rattle.ad_ldif.proofs.ResultLemmas.{fails_by}
use Rattle.ad_ldif.proofs.ChangeLemmas.{item_ends, one_value, bad_value, no_end}
use Rattle.ad_ldif.proofs.changing.read_values.Goals as goal

pub returns-then-ends_item-clause-values : goal.returns-then-ends_item-clause-values
returns-then-ends_item-clause-values c =
    let cut = rw c.in-Some.is at c.in_ok-line.ensures.lines in
    c.lines.invariant.values ∙ item_ends _ _ _ _ cut (sym c.ends_item.ensures ∙ c.if-ends_item.true)

pub returns-in_err-value-clause-values : goal.returns-in_err-value-clause-values
returns-in_err-value-clause-values c =
    let p = err_from_is_err_and c.from_residual-in_err-value.result c.from_residual-in_err-value.ensures.1 in
    let cut = rw c.in-Some.is at c.in_ok-line.ensures.lines in
    rw (p.1, p.2) (fails_by _ _ _ c.lines.invariant.values
    (bad_value _ _ _ _ c.in_err-value.field-0.0 cut (sym c.ends_item.ensures ∙ c.if-ends_item.false)
    (rw c.as_slice.ensures at c.in_err-value.ensures)))

pub lines-preserved : goal.lines-preserved
lines-preserved c =
    let cut = rw c.in-Some.is at c.in_ok-line.ensures.lines in
    record {
      values = c.lines.invariant.values ∙ rw c.in_ok-push.ensures.ok
          (one_value _ _ _ _ _ cut (sym c.ends_item.ensures ∙ c.if-ends_item.false)
          (rw c.as_slice.ensures at c.in_ok-value.ensures));
      others = c.lines.invariant.others ∙ rw c.in-Some.is at c.in_ok-line.ensures.others;
      shorter = let less = rw c.in-Some.is at c.in_ok-line.ensures.shorter
          in omega (arith, less, c.lines.invariant.shorter);
    }

pub returns-clause-values : goal.returns-clause-values
returns-clause-values c =
    let none = rw c.in_default.is at c.in_ok-line.ensures.lines in
    c.lines.invariant.values ∙ no_end _ _ none
