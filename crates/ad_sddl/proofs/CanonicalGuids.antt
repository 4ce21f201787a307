-- The text of a GUID is in lower case, and encodes it.
use Rattle.std.proofs.Common.{Bool, true, false, ◌≡◌, inl, ℕ, zero, suc, ◌<◌, List, [], ◌∷◌, All, if◌then◌else◌, refl}
use Rattle.std.proofs.Common.{sym, ap, subst, arith}
use Rattle.std.specs.Char.{to_ascii_lowercase}
use Rattle.std.specs.List.{AllByRecursion}
use Rattle.std.specs.Str.{str_to_ascii_lowercase}
use Rattle.std.proofs.lemmas.Bool.Decides.{nat_tests}
use Rattle.uuid.specs.Text.{lower, hex_digit, by_index, nibble, digit_place, is_hyphen_place}
use Rattle.uuid.specs.Parts.{swap_fields}
use Rattle.uuid.proofs.TextLemmas.{nibble_small}
use Rattle.uuid.proofs.RoundTrips.{parses_hyphenated_text}
use Rattle.ad_ids.specs.declared.guid.Guid.{Guid}
use Rattle.ad_ids.specs.Guid.{IsGuid}
use Rattle.ad_ids.specs.GuidText.{guid_text, SpellsGuidText}
use Rattle.ad_sddl.proofs.CanonicalLower.{lower_both, IsLower}

by_index_lower : (n : ℕ) (f : ℕ → ℕ) → ((k : ℕ) → to_ascii_lowercase (f k) ≡ f k) → IsLower (by_index n f)
unfolding by_index
by_index_lower zero f each = refl
by_index_lower (suc n) f each = lower_both (by_index n f) (f n ∷ []) (by_index_lower n f each)
    (ap (λ (x : ℕ). x ∷ []) (each n))

digit_lower : (d : ℕ) → d < 16 → to_ascii_lowercase (hex_digit lower d) ≡ hex_digit lower d
digit_lower d small = grind (arith, nat_tests)

character_lower : (is : Bool) (d : ℕ) → d < 16 → to_ascii_lowercase (if is then 45 else hex_digit lower d)
    ≡ (if is then 45 else hex_digit lower d)
character_lower true d small = refl
character_lower false d small = digit_lower d small

pub guid_lower : (g : Guid) → IsLower (guid_text g)
guid_lower g =
    let xs = swap_fields g.bytes in
    by_index_lower 36 (λ k. if is_hyphen_place k then 45 else hex_digit lower (nibble xs (digit_place k)))
    (λ k. character_lower (is_hyphen_place k) (nibble xs (digit_place k)) (nibble_small xs (digit_place k)))

all_by_place : (xs : List ℕ) → AllByRecursion (λ b. b < 256) xs → All (λ b. b < 256) xs
all_by_place [] each k d lt = absurd (omega (arith, lt))
all_by_place (x ∷ xs) each zero d lt = each.0
all_by_place (x ∷ xs) each (suc k) d lt = all_by_place xs each.1 k d (omega (arith, lt))

written : (g : Guid) → IsGuid g → SpellsGuidText g (guid_text g)
written g is =
    let fits = is.fits in
    let each : AllByRecursion (λ b. b < 256) (swap_fields g.bytes)
    = (
      fits 3,
      (
        fits 2,
        (
          fits 1,
          (
            fits 0,
            (
              fits 5,
              (
                fits 4,
                (
                  fits 7,
                  (
                    fits 6,
                    (fits 8, (fits 9, (fits 10, (fits 11, (fits 12, (fits 13, (fits 14, (fits 15, tt)))))))),
                  ),
                ),
              ),
            ),
          ),
        ),
      ),
    ) in (
      is.sixteen,
      sym (parses_hyphenated_text lower (swap_fields g.bytes) (inl refl) refl
          (all_by_place (swap_fields g.bytes) each)),
    )

pub guid_spelled : (g : Guid) → IsGuid g → SpellsGuidText g (str_to_ascii_lowercase (guid_text g))
guid_spelled g is = subst (SpellsGuidText g) (sym (guid_lower g)) (written g is)
