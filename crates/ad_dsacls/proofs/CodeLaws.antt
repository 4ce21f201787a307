-- The codes of a mask are those of the rights that are granted.
use Rattle.std.proofs.Common.{◌≡◌, ℕ, ◌<◌, ◌^◌, Bool, ◌&&◌, List, [], ◌∷◌, ◌++◌, codes, refl, ap, ◌∙◌, if◌then◌else◌}
use Rattle.std.proofs.Common.{lit<}
use Rattle.ad_acl.specs.Entry.{says}
use Rattle.ad_acl.specs.Mask.{has_bit, mapped_has, control_access, self_write}
use Rattle.ad_acl.proofs.MaskLaws.{masked}
use Rattle.ad_acl.specs.Codes.{right_codes}
use Rattle.ad_sddl.specs.Canonical.{codes_text}
use Rattle.ad_dsacls.specs.Effective.{code_of, granted_codes, object_rights, attribute_rights, set_rights, child_rights}
use Rattle.ad_access_dir.specs.Masks.{IsMask}

both : {a b c d : List ℕ} → a ≡ c → b ≡ d → a ++ b ≡ c ++ d
both {a} {b} {c} {d} e f = ap (λ (x : List ℕ). x ++ b) e ∙ ap (λ (x : List ℕ). c ++ x) f

-- the places of all rights that have codes
abbrev all_rights : List ℕ
all_rights = 0 ∷ 1 ∷ 2 ∷ 3 ∷ 4 ∷ 5 ∷ 6 ∷ 7 ∷ 8 ∷ 16 ∷ 17 ∷ 18 ∷ 19 ∷ 28 ∷ 29 ∷ 30 ∷ 31 ∷ []

module _ (mask : ℕ) (g : ℕ → Bool) (bits : (bit : ℕ) → bit < 32 → has_bit mask bit ≡ g bit) where
  one : (bit : ℕ) (letters : List ℕ) → bit < 32 → (if says mask (2 ^ bit) then letters else [])
      ≡ (if g bit then letters else [])
  one bit letters lt = ap (λ (b : Bool). if b then letters else []) (masked mask bit ∙ bits bit lt)

  codes_by : codes_text right_codes mask ≡ granted_codes g all_rights
  unfolding right_codes granted_codes code_of
  codes_by =
      both (one 0 (codes "CC") (lit< tt)) (both (one 1 (codes "DC") (lit< tt)) (both (one 2 (codes "LC") (lit< tt))
      (both (one 3 (codes "SW") (lit< tt)) (both (one 4 (codes "RP") (lit< tt)) (both (one 5 (codes "WP") (lit< tt))
      (both (one 6 (codes "DT") (lit< tt)) (both (one 7 (codes "LO") (lit< tt)) (both (one 8 (codes "CR") (lit< tt))
      (both (one 16 (codes "SD") (lit< tt)) (both (one 17 (codes "RC") (lit< tt)) (both (one 18 (codes "WD") (lit< tt))
      (both (one 19 (codes "WO") (lit< tt)) (both (one 28 (codes "GA") (lit< tt)) (both (one 29 (codes "GX") (lit< tt))
      (both (one 30 (codes "GW") (lit< tt)) (both (one 31 (codes "GR") (lit< tt)) refl))))))))))))))))

module _ (grants : ℕ → Bool) (mask : ℕ) where
  pub object_codes : IsMask 0xf01ff grants mask → codes_text right_codes mask ≡ granted_codes grants object_rights
  unfolding granted_codes has_bit
  object_codes is = codes_by mask (λ bit. mapped_has 0xf01ff bit && grants bit) is.bits

  pub attribute_codes : IsMask 0x130 grants mask → codes_text right_codes mask ≡ granted_codes grants attribute_rights
  unfolding granted_codes has_bit
  attribute_codes is = codes_by mask (λ bit. mapped_has 0x130 bit && grants bit) is.bits

  pub set_codes : IsMask 0x30 grants mask → codes_text right_codes mask ≡ granted_codes grants set_rights
  unfolding granted_codes has_bit
  set_codes is = codes_by mask (λ bit. mapped_has 0x30 bit && grants bit) is.bits

  pub extended_codes : IsMask 0x100 grants mask → codes_text right_codes mask
      ≡ granted_codes grants (control_access ∷ [])
  unfolding granted_codes has_bit
  extended_codes is = codes_by mask (λ bit. mapped_has 0x100 bit && grants bit) is.bits

  pub validated_codes : IsMask 0x8 grants mask → codes_text right_codes mask ≡ granted_codes grants (self_write ∷ [])
  unfolding granted_codes has_bit
  validated_codes is = codes_by mask (λ bit. mapped_has 0x8 bit && grants bit) is.bits

  pub child_codes : IsMask 0x3 grants mask → codes_text right_codes mask ≡ granted_codes grants child_rights
  unfolding granted_codes has_bit
  child_codes is = codes_by mask (λ bit. mapped_has 0x3 bit && grants bit) is.bits
