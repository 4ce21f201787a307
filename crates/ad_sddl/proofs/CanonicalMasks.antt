-- The flags and the rights of an entry are encoded.
use Rattle.std.proofs.Common.{Bool, true, false, max, min, ◌≡◌, inl, inr, ℕ, ◌^◌, ◌<◌, if◌then◌else◌, ◌++◌, codes}
use Rattle.std.proofs.Common.{refl, sym, ap, ◌∙◌, arith}
use Rattle.std.specs.Prelude.{bit_and, bit_or}
use Rattle.std.specs.Int.{bit_at}
use Rattle.std.specs.List.{AllByRecursion}
use Rattle.std.specs.Str.{str_to_ascii_lowercase}
use Rattle.std.proofs.lemmas.Bool.{eqb-true, cases_order}
use Rattle.std.proofs.lemmas.Nat.Bits.{bit_at_and, bit_at_or, same_from_bits}
use Rattle.ad_acl.proofs.KeptFlags.{spelled-kept}
use Rattle.ad_acl.specs.Codes.{flag_codes, right_codes}
use Rattle.ad_sddl.specs.Grammar.{IsIn, SpellsCodes, SpellsRights}
use Rattle.ad_sddl.specs.Canonical.{hex_text, all_rights, is_covered, codes_text, rights_text}
use Rattle.ad_sddl.proofs.CanonicalCodes.{IsOneBit, bits_of, codes_spelled}
use Rattle.ad_sddl.proofs.CanonicalHex.{hex_spelled}

-- ---- the tables

flags_known : AllByRecursion (IsIn flag_codes) flag_codes
unfolding flag_codes
flags_known = (
  (111, 105, refl, refl),
  (
    (99, 105, refl, refl),
    (
      (110, 112, refl, refl),
      (
        (105, 111, refl, refl),
        ((105, 100, refl, refl), ((115, 97, refl, refl), ((102, 97, refl, refl), tt))),
      ),
    ),
  ),
)

flags_bits : AllByRecursion (λ c. IsOneBit c.bits) flag_codes
unfolding flag_codes
flags_bits = ((0, refl), ((1, refl), ((2, refl), ((3, refl), ((4, refl), ((6, refl), ((7, refl), tt)))))))

rights_known : AllByRecursion (IsIn right_codes) right_codes
unfolding right_codes
rights_known = (
  (99, 99, refl, refl),
  (
    (100, 99, refl, refl),
    (
      (108, 99, refl, refl),
      (
        (115, 119, refl, refl),
        (
          (114, 112, refl, refl),
          (
            (119, 112, refl, refl),
            (
              (100, 116, refl, refl),
              (
                (108, 111, refl, refl),
                (
                  (99, 114, refl, refl),
                  (
                    (115, 100, refl, refl),
                    (
                      (114, 99, refl, refl),
                      (
                        (119, 100, refl, refl),
                        (
                          (119, 111, refl, refl),
                          (
                            (103, 97, refl, refl),
                            ((103, 120, refl, refl), ((103, 119, refl, refl), ((103, 114, refl, refl), tt))),
                          ),
                        ),
                      ),
                    ),
                  ),
                ),
              ),
            ),
          ),
        ),
      ),
    ),
  ),
)

rights_bits : AllByRecursion (λ c. IsOneBit c.bits) right_codes
unfolding right_codes
rights_bits = (
  (0, refl),
  (
    (1, refl),
    (
      (2, refl),
      (
        (3, refl),
        (
          (4, refl),
          (
            (5, refl),
            (
              (6, refl),
              (
                (7, refl),
                (
                  (8, refl),
                  (
                    (16, refl),
                    (
                      (17, refl),
                      ((18, refl), ((19, refl), ((28, refl), ((29, refl), ((30, refl), ((31, refl), tt)))))),
                    ),
                  ),
                ),
              ),
            ),
          ),
        ),
      ),
    ),
  ),
)

all_flags_are : bits_of flag_codes ≡ 223
unfolding flag_codes
all_flags_are = refl

all_rights_are : bits_of right_codes ≡ all_rights
unfolding all_rights right_codes
all_rights_are = refl

-- ---- flags

pub flags_spelled : (flags : ℕ) → flags < 256 → bit_and flags 32 ≡ 0 → SpellsCodes flag_codes flags
    (str_to_ascii_lowercase (codes_text flag_codes flags))
flags_spelled flags small clear =
    let kept : bit_and flags 223 ≡ flags = spelled-kept flags flags
    (record { fits = small; clear = clear; with_or_without = inl refl }) in
    codes_spelled flag_codes flags_known flags_bits flags (ap (bit_and flags) all_flags_are ∙ kept)

-- ---- rights

covered_and : (mask all : ℕ) → bit_or mask all ≡ all → bit_and mask all ≡ mask
covered_and mask all e = same_from_bits (bit_and mask all) mask (λ i.
    bit_at_and mask all i ∙ within (bit_at mask i) (bit_at all i)
    (sym (bit_at_or mask all i) ∙ ap (λ (x : ℕ). bit_at x i) e))
  where
    within : (x a : ℕ) → max x a ≡ a → min x a ≡ x
    within x a e = omega (arith, e)

none_covered : is_covered 0 ≡ true
unfolding all_rights right_codes
none_covered = refl

some_right : (mask : ℕ) → is_covered mask ≡ false → 0 < mask
some_right mask e = elim (cases_order mask 0) [
  | inl none ↦ absurd (wrong (sym none_covered ∙ ap is_covered (sym none) ∙ e))
  | inr (inl below) ↦ absurd (omega (arith, below))
  | inr (inr above) ↦ omega (arith, above)
]
  where
    wrong : true ≡ false → ⊥
    wrong e = absurd cc

rights_if : (is : Bool) (mask : ℕ) → mask < 2 ^ 32 → is_covered mask ≡ is
    → SpellsRights mask (str_to_ascii_lowercase (if is then codes_text right_codes mask else codes "0x"
    ++ hex_text 8 mask))
rights_if true mask small e =
    let within : bit_or mask all_rights ≡ all_rights = eqb-true (bit_or mask all_rights) all_rights e in
    inr (codes_spelled right_codes rights_known rights_bits mask
    (ap (bit_and mask) all_rights_are ∙ covered_and mask all_rights within))
rights_if false mask small e = inl (hex_spelled mask (some_right mask e) small)

pub rights_spelled : (mask : ℕ) → mask < 2 ^ 32 → SpellsRights mask (str_to_ascii_lowercase (rights_text mask))
rights_spelled mask small = rights_if (is_covered mask) mask small refl
