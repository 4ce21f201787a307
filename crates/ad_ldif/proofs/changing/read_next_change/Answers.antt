use Rattle.std.proofs.lemmas.Result.{err_from_is_err_and}
use Rattle.ad_ldif.proofs.ChangeLemmas.{none_told, change_told, bad_change}
use Rattle.ad_ldif.proofs.changing.read_next_change.Goals as goal

pub returns-in_default-clause-told : goal.returns-in_default-clause-told
returns-in_default-clause-told c =
    let none = rw c.in_default.is at c.in_ok-first.ensures.records in
    none_told _ none

pub returns-in_err-read_change-clause-told : goal.returns-in_err-read_change-clause-told
returns-in_err-read_change-clause-told c =
    let p = err_from_is_err_and c.from_residual-in_err-read_change.result c.from_residual-in_err-read_change.ensures.1
    in
    let cut = rw c.in-Some.is at c.in_ok-first.ensures.records in
    rw (p.1, p.2) (bad_change _ _ _ c.in_err-read_change.field-0.0 _ cut c.in_err-read_change.ensures.change)

pub returns-clause-told : goal.returns-clause-told
returns-clause-told c =
    let cut = rw c.in-Some.is at c.in_ok-first.ensures.records in
    change_told _ _ _ _ _ cut c.in_ok-read_change.ensures.change c.in_ok-read_change.ensures.others
