-- The bytes of a number are those that it was read from: the laws that `byteorder` has the other way round.
use Rattle.std.proofs.Common.{◌≡◌, ℕ, zero, suc, ◌+◌, ◌*◌, ◌/◌, ◌%◌, ◌^◌, ◌<◌, ◌≤◌, List, [], ◌∷◌, length, take, drop}
use Rattle.std.proofs.Common.{refl, sym, ap, ◌∙◌, arith, inl, inr}
use Rattle.std.specs.Int.{byte_at as byte_of, bytes_high_first, bytes_low_first}
use Rattle.std.proofs.lemmas.Bool.{cases_lt}
use Rattle.std.proofs.lemmas.List.{get_or-drop, get_or-take, get_or_past, length-take}
use Rattle.std.proofs.lemmas.Nat.{pow-add}
use Rattle.std.proofs.Math.Nat.{div-one, div-div-eq-div-mul, div-eq_of_lt, mod-eq_of_lt, mul-add-div_right}
use Rattle.std.proofs.Math.Nat.{mul-add-mod_self_right, mul_assoc, one-le-pow, pow-suc, mul_comm}
use Rattle.byteorder.specs.Endian.{big_from, little_from}
use Rattle.byteorder.specs.Numbers.{big_from-cons, little_from-cons, big_from-lt}
use Rattle.ad_bytes.specs.Reading.{IsBytes}

pub IsBytes-rest : (b : ℕ) (bytes : List ℕ) → IsBytes (b ∷ bytes) → IsBytes bytes
IsBytes-rest b bytes h i = h (suc i)

pub IsBytes-drop : (n : ℕ) (bytes : List ℕ) → IsBytes bytes → IsBytes (drop n bytes)
IsBytes-drop n bytes h i = rw get_or-drop (h (n + i))

pub IsBytes-take : (n : ℕ) (bytes : List ℕ) → IsBytes bytes → IsBytes (take n bytes)
IsBytes-take n bytes h i =
    elim (cases_lt i n) [
      | inl lt ↦ rw (get_or-take n bytes i 0 lt) (h i)
      | inr le ↦ rw (get_or_past (take n bytes) i 0 (omega (arith, length-take n bytes))) (omega arith)
    ]

-- a power of 256 is above zero
pow_above : (n : ℕ) → zero < 256 ^ n
pow_above n = let h = one-le-pow n 256 (omega arith) in omega arith

-- a byte of a number, by its place
byte_of-pow : (k x : ℕ) → byte_of k x ≡ x / 256 ^ k % 256
byte_of-pow zero x = ap (λ (y : ℕ). y % 256) (sym (div-one x))
byte_of-pow (suc k) x = refl

-- what stands from the byte n on doesn't change a byte below it
byte_of-low : (k j q r : ℕ) → byte_of k (q * 256 ^ (suc j + k) + r) ≡ byte_of k r
byte_of-low k j q r =
    let apart : q * 256 ^ (suc j + k) ≡ q * 256 ^ j * 256 * 256 ^ k = rw (pow-add 256 (suc j) k, pow-suc 256 j)
    (sym (mul_assoc q (256 ^ j * 256) (256 ^ k)) ∙ ap (λ (y : ℕ). y * 256 ^ k) (sym (mul_assoc q (256 ^ j) 256)))
    in
    byte_of-pow k (q * 256 ^ (suc j + k) + r)
    ∙ ap (λ (y : ℕ). (y + r) / 256 ^ k % 256) apart
    ∙ ap (λ (y : ℕ). y % 256) (mul-add-div_right (pow_above k) (q * 256 ^ j * 256) r)
    ∙ mul-add-mod_self_right (q * 256 ^ j) 256 (r / 256 ^ k)
    ∙ sym (byte_of-pow k r)

high-low : (k j q r : ℕ) → bytes_high_first k (q * 256 ^ (j + k) + r) ≡ bytes_high_first k r
high-low zero j q r = refl
high-low (suc k) j q r =
    let moved : j + suc k ≡ suc j + k = omega arith in
    rw (moved, byte_of-low k j q r, high-low k (suc j) q r) refl

-- the bytes of the number that stands at the start, the most significant first
pub high_again : (n : ℕ) (bytes : List ℕ) → n ≤ length bytes → IsBytes bytes → bytes_high_first n (big_from 0 n bytes)
    ≡ take n bytes
high_again zero bytes le fits = refl
high_again (suc n) [] le fits = absurd (omega arith)
high_again (suc n) (b ∷ bytes) le fits =
    let r = big_from 0 n bytes in
    let below : r < 256 ^ n = big_from-lt 0 n bytes (IsBytes-rest b bytes fits) in
    let top : b < 256 = fits 0 in
    let first : byte_of n (b * 256 ^ n + r) ≡ b =
    byte_of-pow n (b * 256 ^ n + r) ∙ ap (λ (y : ℕ). y % 256)
    (mul-add-div_right (pow_above n) b r ∙ rw (div-eq_of_lt below) (omega arith)) ∙ mod-eq_of_lt top in
    let e : n ≡ 0 + n = omega arith in
    let low : bytes_high_first n (b * 256 ^ n + r) ≡ bytes_high_first n r
    = ap (λ (m : ℕ). bytes_high_first n (b * 256 ^ m + r)) e ∙ high-low n 0 b r in
    rw (big_from-cons 0 n b bytes, first, low, high_again n bytes (omega arith) (IsBytes-rest b bytes fits)) refl

low-shift : (n i x : ℕ) → bytes_low_first (suc i) n x ≡ bytes_low_first i n (x / 256)
low-shift zero i x = refl
low-shift (suc n) i x =
    let one : byte_of (suc i) x ≡ byte_of i (x / 256) =
    ap (λ (p : ℕ). x / p % 256) (pow-suc 256 i ∙ mul_comm (256 ^ i) 256) ∙ ap (λ (y : ℕ). y % 256)
    (sym (div-div-eq-div-mul x 256 (256 ^ i))) ∙ sym (byte_of-pow i (x / 256)) in
    rw (one, low-shift n (suc i) x) refl

-- the bytes of the number that stands at the start, the least significant first
pub low_again : (n : ℕ) (bytes : List ℕ) → n ≤ length bytes → IsBytes bytes
    → bytes_low_first 0 n (little_from 0 n bytes) ≡ take n bytes
low_again zero bytes le fits = refl
low_again (suc n) [] le fits = absurd (omega arith)
low_again (suc n) (b ∷ bytes) le fits =
    let r = little_from 0 n bytes in
    let top : b < 256 = fits 0 in
    let first : byte_of 0 (b + 256 * r) ≡ b = omega arith in
    let others : (b + 256 * r) / 256 ≡ r = omega arith in
    rw (
      little_from-cons 0 n b bytes,
      first,
      low-shift n 0 (b + 256 * r),
      others,
      low_again n bytes (omega arith)
          (IsBytes-rest b bytes fits),
    ) refl
