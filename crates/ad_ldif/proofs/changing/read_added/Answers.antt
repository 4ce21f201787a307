use Rattle.std.proofs.Common.{◌∙◌}
use Rattle.std.proofs.lemmas.Result.{err_from_is_err_and}
use Rattle.ad_ldif.proofs.ResultLemmas.{fails_by}
use Rattle.ad_ldif.proofs.ChangeLemmas.{none_added, some_added, bad_added}
use Rattle.ad_ldif.proofs.changing.read_added.Goals as goal

pub returns-in_default-clause-fields : goal.returns-in_default-clause-fields
returns-in_default-clause-fields c =
    let none = rw c.in_default.is at c.in_ok-line.ensures.lines in
    none_added _ _ none

pub returns-in_err-fields-clause-fields : goal.returns-in_err-fields-clause-fields
returns-in_err-fields-clause-fields c =
    let p = err_from_is_err_and c.from_residual-in_err-fields.result c.from_residual-in_err-fields.ensures.1 in
    let cut = rw c.in-Some.is at c.in_ok-line.ensures.lines in
    rw (p.1, p.2) (bad_added _ _ _ _ c.in_err-fields.field-0.0 cut c.in_err-fields.ensures)

pub returns-in_err-read_fields-clause-fields : goal.returns-in_err-read_fields-clause-fields
returns-in_err-read_fields-clause-fields c =
    let p = err_from_is_err_and c.from_residual-in_err-read_fields.result c.from_residual-in_err-read_fields.ensures.1
    in
    let cut = rw c.in-Some.is at c.in_ok-line.ensures.lines in
    rw (p.1, p.2) (fails_by c.in_err-read_fields.field-0.0 _ _ (some_added _ _ _ _ _ cut c.in_ok-fields.ensures)
    c.in_err-read_fields.ensures.fields)

pub returns-clause-fields : goal.returns-clause-fields
returns-clause-fields c =
    let cut = rw c.in-Some.is at c.in_ok-line.ensures.lines in
    rw c.in_ok-exact.ensures (some_added _ _ _ _ _ cut c.in_ok-fields.ensures ∙ c.in_ok-read_fields.ensures.fields)
