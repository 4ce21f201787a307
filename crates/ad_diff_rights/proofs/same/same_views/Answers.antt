use Rattle.std.proofs.Common.{◌∙◌, sym}
use Rattle.std.proofs.lemmas.Slice.Eq.{bytes_eq-Decides}
use Rattle.ad_diff_rights.proofs.OneValue.{one_sd}
use Rattle.ad_diff_rights.proofs.same.same_views.Goals as goal

pub returns : goal.returns
returns c = λ same. one_sd _ _ c.as_bytes.result.now c.as_bytes-2.result.now c.as_bytes.ensures c.as_bytes-2.ensures
    ((bytes_eq-Decides c.as_bytes.result.now c.as_bytes-2.result.now).0 (sym c.eq.ensures ∙ same))
