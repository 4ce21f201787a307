-- What a text encodes has the ranges of its fields.
use Rattle.std.proofs.Common.{◌≡◌, inl, inr, ℕ, zero, suc, ◌+◌, ◌*◌, ◌^◌, ◌<◌, ◌≤◌, Bool, true, false, cond, Option}
use Rattle.std.proofs.Common.{Some, None, List, [], ◌∷◌, length, refl, sym, ap, subst, ◌∙◌, arith}
use Rattle.std.proofs.Math.Nat.{pow-le-pow_right}
use Rattle.std.specs.Prelude.{bit_and, bit_or, slice_index, ◌==◌, ◌&&◌}
use Rattle.std.specs.List.{AllByRecursion, list_all}
use Rattle.std.proofs.lemmas.Bool.{and_parts, eqb-true}
use Rattle.std.proofs.lemmas.Bool.Decides.{nat_tests}
use Rattle.std.proofs.lemmas.List.{get_or_default}
use Rattle.std.proofs.lemmas.Nat.{or_of_8, or_of_32, and_or_apart}
use Rattle.std.proofs.lemmas.Option.{cond_some, none-some}
use Rattle.uuid.specs.Text.{is_hex_digit, value_of, by_index, byte_of_digits, digits_of, has_hyphens, parsed_simple}
use Rattle.uuid.specs.Parts.{swap_fields}
use Rattle.uuid.proofs.TextLemmas.{by_index_at, by_index_same}
use Rattle.ad_bytes.specs.Reading.{IsBytes}
use Rattle.ad_ids.specs.declared.guid.Guid.{Guid}
use Rattle.ad_ids.specs.Guid.{IsGuid}
use Rattle.ad_ids.specs.GuidText.{SpellsGuidText}
use Rattle.ad_acl.specs.Writing.{IsGuidIf}
use Rattle.ad_acl.specs.Codes.{flag_codes, right_codes}
use Rattle.ad_sddl.specs.Grammar.{IsIn, with_codes, SpellsCodes, digits_value, SpellsRights, SpellsGuidIf}
use Rattle.ad_sddl.proofs.Codes.{found_all}
use Rattle.ad_sddl.proofs.Digits.{number_more}

-- ---- flags and rights

-- the bits of a code keep what holds of a mask
abbrev Keeps : (ℕ → Type 0) → ℕ → Type 0
Keeps P bits = (mask : ℕ) → P mask → P (bit_or mask bits)

codes_keep : (P : ℕ → Type 0) (table given : _) (mask : ℕ) → AllByRecursion (IsIn table) given
    → AllByRecursion (λ c. Keeps P c.bits) table → P mask → P (with_codes mask given)
codes_keep P table [] mask all each is = is
codes_keep P table (c ∷ given) mask all each is =
    codes_keep P table given (bit_or mask c.bits) all.1 each
    (found_all (λ d. Keeps P d.bits) table all.0.0 all.0.1 c each all.0.3 mask is)

abbrev AreFlags : ℕ → Type 0
AreFlags flags = (flags < 2 ^ 8) × (bit_and flags 32 ≡ 0)

flag_keeps : (bits mask : ℕ) → bits < 2 ^ 8 → bit_and bits 32 ≡ 0 → AreFlags mask → AreFlags (bit_or mask bits)
flag_keeps bits mask small clear is = (or_of_8 mask bits is.0 small, and_or_apart 32 mask bits clear ∙ is.1)

each_flag : AllByRecursion (λ c. Keeps AreFlags c.bits) flag_codes
unfolding flag_codes
each_flag = (
  λ m is. flag_keeps 1 m (omega arith) refl is,
  (
    λ m is. flag_keeps 2 m (omega arith) refl is,
    (
      λ m is. flag_keeps 4 m (omega arith) refl is,
      (
        λ m is. flag_keeps 8 m (omega arith) refl is,
        (
          λ m is. flag_keeps 16 m (omega arith) refl is,
          (
            λ m is. flag_keeps 64 m (omega arith) refl is,
            (λ m is. flag_keeps 128 m (omega arith) refl is, tt),
          ),
        ),
      ),
    ),
  ),
)

pub flags_are : (flags : ℕ) (text : List ℕ) → SpellsCodes flag_codes flags text → AreFlags flags
flags_are flags text s = subst AreFlags (sym s.mask_is)
    (codes_keep AreFlags flag_codes s.given 0 s.each each_flag (omega arith, refl))

abbrev IsMask : ℕ → Type 0
IsMask mask = mask < 2 ^ 32

right_keeps : (bits : ℕ) → bits < 2 ^ 32 → (mask : ℕ) → IsMask mask → IsMask (bit_or mask bits)
right_keeps bits small mask is = or_of_32 mask bits is small

each_right : AllByRecursion (λ c. Keeps IsMask c.bits) right_codes
unfolding right_codes
each_right = (
  right_keeps 0x1 (omega arith),
  (
    right_keeps 0x2 (omega arith),
    (
      right_keeps 0x4 (omega arith),
      (
        right_keeps 0x8 (omega arith),
        (
          right_keeps 0x10 (omega arith),
          (
            right_keeps 0x20 (omega arith),
            (
              right_keeps 0x40 (omega arith),
              (
                right_keeps 0x80 (omega arith),
                (
                  right_keeps 0x100 (omega arith),
                  (
                    right_keeps 0x10000 (omega arith),
                    (
                      right_keeps 0x20000 (omega arith),
                      (
                        right_keeps 0x40000 (omega arith),
                        (
                          right_keeps 0x80000 (omega arith),
                          (
                            right_keeps 0x10000000 (omega arith),
                            (
                              right_keeps 0x20000000 (omega arith),
                              (right_keeps 0x40000000 (omega arith), (right_keeps 0x80000000 (omega arith), tt)),
                            ),
                          ),
                        ),
                      ),
                    ),
                  ),
                ),
              ),
            ),
          ),
        ),
      ),
    ),
  ),
)

digit_small : (b : ℕ) → is_hex_digit b ≡ true → value_of b < 16
digit_small b e = grind (arith, nat_tests)

digits_below : (k n : ℕ) (digits : List ℕ) → n < 16 ^ k → AllByRecursion (λ d. is_hex_digit d ≡ true) digits
    → digits_value n digits < 16 ^ (k + length digits)
digits_below k n [] less each = subst (λ (i : ℕ). n < 16 ^ i) (omega arith) less
digits_below k n (d ∷ digits) less each =
    subst (λ (i : ℕ). digits_value (n * 16 + value_of d) digits < 16 ^ i) (omega arith)
    (digits_below (k + 1) (n * 16 + value_of d) digits (number_more k n (value_of d) less (digit_small d each.0))
    each.1)

pub mask_is : (mask : ℕ) (text : List ℕ) → SpellsRights mask text → IsMask mask
mask_is mask text (inl s) =
    let below : digits_value 0 s.digits < 16 ^ (0 + length s.digits) = digits_below 0 0 s.digits (omega arith) s.each in
    let most : 16 ^ (0 + length s.digits) ≤ 16 ^ 8 = pow-le-pow_right {n = 16} (omega arith) {i = 0 + length s.digits}
    {j = 8} (omega (arith, s.at_most_8)) in
    omega (arith, below, most, s.mask_is)
mask_is mask text (inr s) = subst IsMask (sym s.mask_is)
    (codes_keep IsMask right_codes s.given 0 s.each each_right (omega arith))

-- ---- GUIDs

simple_is : (digits bytes : List ℕ) → parsed_simple digits ≡ Some bytes → (length digits ≡ 32)
    × (list_all is_hex_digit digits ≡ true) × (by_index 16 (byte_of_digits digits) ≡ bytes)
simple_is digits bytes e =
    let t = cond_some ((length digits == 32) && list_all is_hex_digit digits) (by_index 16 (byte_of_digits digits))
    bytes e in
    let both = and_parts (length digits == 32) (list_all is_hex_digit digits) t.0 in
    (eqb-true (length digits) 32 both.0, both.1, t.1)

all_at : (test : ℕ → Bool) (xs : List ℕ) (i : ℕ) → list_all test xs ≡ true → i < length xs → test (slice_index xs i)
    ≡ true
all_at test [] i all lt = absurd (omega (arith, lt))
all_at test (x ∷ xs) zero all lt = (and_parts (test x) (list_all test xs) all).0
all_at test (x ∷ xs) (suc i) all lt = all_at test xs i (and_parts (test x) (list_all test xs) all).1 (omega (arith, lt))

byte_small : (digits : List ℕ) (i : ℕ) → length digits ≡ 32 → list_all is_hex_digit digits ≡ true → i < 16
    → byte_of_digits digits i < 256
byte_small digits i long all lt =
    let high : value_of (slice_index digits (2 * i)) < 16 = digit_small (slice_index digits (2 * i))
    (all_at is_hex_digit digits (2 * i) all (omega (arith, long, lt))) in
    let low : value_of (slice_index digits (2 * i + 1)) < 16 = digit_small (slice_index digits (2 * i + 1))
    (all_at is_hex_digit digits (2 * i + 1) all (omega (arith, long, lt))) in
    omega (arith, high, low)

pub bytes_of : (xs : List ℕ) → AllByRecursion (λ b. b < 256) xs → IsBytes xs
bytes_of [] each i = omega arith
bytes_of (x ∷ xs) each zero = each.0
bytes_of (x ∷ xs) each (suc i) = bytes_of xs each.1 i

if_some : {A : Type 0} (b : Bool) (o : Option A) (y : A) → cond b o None ≡ Some y → o ≡ Some y
if_some true o y e = e
if_some false o y e = absurd (none-some y e)

guid_is : (g : Guid) (text : List ℕ) → SpellsGuidText g text → IsGuid g
unfolding by_index
guid_is g text s =
    let b = g.bytes in
    let digits = digits_of text in
    let t = simple_is digits (swap_fields b) (if_some ((length text == 36) && has_hyphens text) (parsed_simple digits)
    (swap_fields b) s.1) in
    let small : (k : ℕ) → k < 16 → slice_index (swap_fields b) k < 256 = λ k lt.
    subst (λ (n : ℕ). n < 256) (sym (by_index_at 16 (byte_of_digits digits) k 0 lt)
    ∙ ap (λ (l : List ℕ). slice_index l k) t.2) (byte_small digits k t.0 t.1 lt) in
    let whole : b ≡ by_index 16 (slice_index b) = by_index_same b 16 (slice_index b) s.0
    (λ k d lt. get_or_default b k d 0 (omega (arith, s.0, lt))) in
    let each : AllByRecursion (λ x. x < 256) (by_index 16 (slice_index b)) = (
      small 3 (omega arith),
      (
        small 2 (omega arith),
        (
          small 1 (omega arith),
          (
            small 0 (omega arith),
            (
              small 5 (omega arith),
              (
                small 4 (omega arith),
                (
                  small 7 (omega arith),
                  (
                    small 6 (omega arith),
                    (
                      small 8 (omega arith),
                      (
                        small 9 (omega arith),
                        (
                          small 10 (omega arith),
                          (
                            small 11 (omega arith),
                            (
                              small 12 (omega arith),
                              (small 13 (omega arith), (small 14 (omega arith), (small 15 (omega arith), tt))),
                            ),
                          ),
                        ),
                      ),
                    ),
                  ),
                ),
              ),
            ),
          ),
        ),
      ),
    ) in
    record { sixteen = s.0; fits = subst IsBytes (sym whole) (bytes_of (by_index 16 (slice_index b)) each) }

pub guid_if : (is_object : Bool) (o : Option Guid) (text : List ℕ) → SpellsGuidIf is_object o text → IsGuidIf o
guid_if is_object None text s = tt
guid_if false (Some g) text s = absurd s
guid_if true (Some g) text s = guid_is g text s
