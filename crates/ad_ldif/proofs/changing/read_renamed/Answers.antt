use Rattle.std.proofs.Common.{refl, ◌∙◌}
use Rattle.std.proofs.lemmas.Result.{err_from_is_err_and}
use Rattle.ad_ldif.proofs.ResultLemmas.{fails_by, fails_first}
use Rattle.ad_ldif.proofs.ChangeLemmas.{renamed_by}
use Rattle.ad_ldif.proofs.changing.read_renamed.Goals as goal

pub returns-in_err-superior-clause-op : goal.returns-in_err-superior-clause-op
returns-in_err-superior-clause-op c =
    let p = err_from_is_err_and c.from_residual-in_err-superior.result c.from_residual-in_err-superior.ensures.1 in
    rw (p.1, p.2) (fails_by c.in_err-superior.field-0.0 _ _
    (renamed_by _ _ _ _ c.in_ok-rdn.ensures.value c.in_ok-delete_old.ensures.value)
    (fails_first c.in_err-superior.field-0.0 _ _ c.in_err-superior.ensures.superior))

pub returns-clause-op : goal.returns-clause-op
returns-clause-op c = renamed_by _ _ _ _ c.in_ok-rdn.ensures.value c.in_ok-delete_old.ensures.value
    ∙ rw c.in_ok-superior.ensures.superior refl
