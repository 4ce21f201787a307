use Rattle.std.proofs.Common.{◌∙◌}
use Rattle.std.proofs.lemmas.Result.{err_from_is_err_and}
use Rattle.ad_ldif.proofs.ResultLemmas.{fails_by}
use Rattle.ad_ldif.proofs.ChangeLemmas.{no_item, one_item, bad_item, bad_values}
use Rattle.ad_ldif.proofs.changing.read_items.Goals as goal

pub returns-in_err-item-clause-items : goal.returns-in_err-item-clause-items
returns-in_err-item-clause-items c =
    let p = err_from_is_err_and c.from_residual-in_err-item.result c.from_residual-in_err-item.ensures.1 in
    let cut = rw c.in-Some.is at c.in_ok-line.ensures.lines in
    rw (p.1, p.2) (fails_by _ _ _ c.each.invariant.items
    (bad_item _ _ _ _ c.in_err-item.field-0.0 cut c.in_err-item.ensures))

pub returns-in_err-read_values-clause-items : goal.returns-in_err-read_values-clause-items
returns-in_err-read_values-clause-items c =
    let p = err_from_is_err_and c.from_residual-in_err-read_values.result c.from_residual-in_err-read_values.ensures.1
    in
    let cut = rw c.in-Some.is at c.in_ok-line.ensures.lines in
    rw (p.1, p.2) (fails_by _ _ _ c.each.invariant.items
    (bad_values _ _ _ _ _ c.in_err-read_values.field-0.0 cut c.in_ok-item.ensures
    c.in_err-read_values.ensures.values))

pub each-preserved-in_ok-push : goal.each-preserved-in_ok-push
each-preserved-in_ok-push c =
    let cut = rw c.in-Some.is at c.in_ok-line.ensures.lines in
    record {
      items = c.each.invariant.items ∙ rw c.in_ok-push.ensures.ok
          (one_item _ _ _ _ _ _ _ cut c.in_ok-item.ensures c.in_ok-read_values.ensures.values);
      others = c.each.invariant.others ∙ rw c.in-Some.is at c.in_ok-line.ensures.others
          ∙ c.in_ok-read_values.ensures.others;
    }

pub each-preserved : goal.each-preserved
each-preserved c =
    let cut = rw c.in-Some.is at c.in_ok-line.ensures.lines in
    record {
      items = c.each.invariant.items ∙ rw c.in_ok-push.ensures.ok
          (one_item _ _ _ _ _ _ _ cut c.in_ok-item.ensures c.in_ok-read_values.ensures.values);
      others = c.each.invariant.others ∙ rw c.in-Some.is at c.in_ok-line.ensures.others
          ∙ c.in_ok-read_values.ensures.others;
    }

pub returns-clause-items : goal.returns-clause-items
returns-clause-items c =
    let none = rw c.in_default.is at c.in_ok-line.ensures.lines in
    c.each.invariant.items ∙ no_item _ _ none
