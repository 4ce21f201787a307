-- Equal bytes of descriptors.
use Rattle.std.proofs.Common.{◌≡◌, ℕ, List, sym, ap, ◌∙◌, inl, inr}
use Rattle.std.specs.Str.{bytes_eq}
use Rattle.std.proofs.lemmas.Bool.{cases_Bool, both_ways}
use Rattle.std.proofs.lemmas.Slice.Eq.{bytes_eq-Decides}
use Rattle.ad_sd.specs.declared.parts.Sd.{Sd}
use Rattle.ad_sd.specs.Normal.{SpellsNormal, normal_bytes}
use Rattle.ad_sd.specs.SdIn.{sd_in}
use Rattle.ad_sd.proofs.NormalReader.{spelled_in}
use Rattle.ad_dir_model.specs.SameSd.{same_sd}
use Rattle.ad_dir_model.proofs.SameSdLaws.{same_sd-is, same_sd-refl}

-- normal bytes are equal where descriptors are
pub same_bytes : (a b : Sd) (x y : List ℕ) → SpellsNormal a x → SpellsNormal b y → bytes_eq x y ≡ same_sd a b
same_bytes a b x y s t = elim (cases_Bool (same_sd a b)) [
  | inl same ↦
      let one : a ≡ b = same_sd-is a b same in
      let bytes : x ≡ y = s.1 ∙ ap normal_bytes one ∙ sym t.1 in
      (bytes_eq-Decides x y).1 bytes ∙ sym same
  | inr apart ↦ elim (cases_Bool (bytes_eq x y)) [
    | inl eq ↦
        let bytes : x ≡ y = (bytes_eq-Decides x y).0 eq in
        let one : a ≡ b = sym (spelled_in x a s) ∙ ap sd_in bytes ∙ spelled_in y b t in
        absurd (both_ways (same_sd a b) apart (ap (same_sd a) (sym one) ∙ same_sd-refl a))
    | inr other ↦ other ∙ sym apart
  ]
]
