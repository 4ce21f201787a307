use Rattle.std.proofs.Common.{◌≡◌, List, ℕ, ◌++◌, ap, sym, ◌∙◌}
use Rattle.ad_sd.specs.Normal.{normal_bytes}
use Rattle.ad_sd.proofs.NormalCodec.{normal_apart}
use Rattle.ad_sd.proofs.laws.no_normal_bytes_begin_others.Goals as goal

pub returns : goal.returns
returns c = λ a b x y r s sa sb e.
    let whole : normal_bytes a ++ r ≡ normal_bytes b ++ s = ap (λ (t : List ℕ). t ++ r) (sym sa.1) ∙ e
    ∙ ap (λ (t : List ℕ). t ++ s) sb.1 in
    let same : a ≡ b = normal_apart a b r s sa.0 sb.0 whole in
    (same, sa.1 ∙ ap normal_bytes same ∙ sym sb.1)
