-- Bytes that are the normal bytes of no descriptor.
use Rattle.std.proofs.Common.{Bool, true, false, ◌≡◌, ℕ, List, refl}
use Rattle.ad_bytes.specs.Reading.{IsBytes}
use Rattle.ad_sd.specs.declared.parts.Sd.{Sd}
use Rattle.ad_sd.specs.Normal.{SpellsNormal}
use Rattle.ad_sd.specs.SdIn.{is_normal, sd_in}
use Rattle.ad_sd.proofs.NormalReader.{normal_spelled}

-- they aren't found to be normal
pub not_found : (b : Bool) (bytes : List ℕ) → is_normal bytes ≡ b → IsBytes bytes
    → ((sd : Sd) → SpellsNormal sd bytes → ⊥) → b ≡ false
not_found true bytes e fits none = absurd (none (sd_in bytes) (normal_spelled bytes fits e))
not_found false bytes e fits none = refl
