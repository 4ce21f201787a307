-- Hexadecimal digits, as they are read one after the other.
use Rattle.std.proofs.Common.{Bool, true, false, ◌≡◌, ℕ, zero, suc, ◌+◌, ◌-◌, ◌*◌, ◌^◌, ◌<◌, ◌≤◌, if◌then◌else◌}
use Rattle.std.proofs.Common.{Option, Some, None, unwrap_or, List, [], ◌∷◌, drop, refl, sym, ap, ◌∙◌, arith}
use Rattle.std.proofs.Math.Nat.{pow-le-pow_right, pow-suc}
use Rattle.uuid.specs.Text.{is_hex_digit, value_of}
use Rattle.ad_sddl.specs.Reading.{digit_here, digits_at}

some_number : (a b : ℕ) → Some a ≡ Some b → a ≡ b
some_number a b e = ap (λ (o : Option ℕ). unwrap_or o a) e

one_step : (is : Bool) (k n v w : ℕ) (b : ℕ) (bytes : List ℕ) → (if is then Some w else None) ≡ Some v
    → (if is then digits_at k (n * 16 + w) bytes else (n, b ∷ bytes)) ≡ digits_at k (n * 16 + v) bytes
one_step true k n v w b bytes e = ap (λ (x : ℕ). digits_at k (n * 16 + x) bytes) (some_number w v e)
one_step false k n v w b bytes e = absurd cc

digit_taken : (k n v : ℕ) (bytes : List ℕ) → digit_here bytes ≡ Some v → digits_at (suc k) n bytes
    ≡ digits_at k (n * 16 + v) (drop 1 bytes)
unfolding digits_at
digit_taken k n v [] e = absurd cc
digit_taken k n v (b ∷ bytes) e = one_step (is_hex_digit b) k n v (value_of b) b bytes e

-- one digit more
pub digits_more : (i n v : ℕ) (bytes after : List ℕ) (total : ℕ × List ℕ) → i < 8 → digit_here bytes ≡ Some v → after
    ≡ drop 1 bytes → digits_at (8 - i) n bytes ≡ total → digits_at (8 - (i + 1)) (n * 16 + v) after ≡ total
digits_more i n v bytes after total lt e rest so_far =
    let k : 8 - i ≡ suc (8 - (i + 1)) = omega (arith, lt) in
    ap (digits_at (8 - (i + 1)) (n * 16 + v)) rest ∙ sym (digit_taken (8 - (i + 1)) n v bytes e)
    ∙ ap (λ (j : ℕ). digits_at j n bytes) (sym k) ∙ so_far

no_step : (is : Bool) (k n w : ℕ) (b : ℕ) (bytes : List ℕ) → (if is then Some w else None) ≡ None
    → (if is then digits_at k (n * 16 + w) bytes else (n, b ∷ bytes)) ≡ (n, b ∷ bytes)
no_step true k n w b bytes e = absurd cc
no_step false k n w b bytes e = refl

none_taken : (k n : ℕ) (bytes : List ℕ) → digit_here bytes ≡ None → digits_at k n bytes ≡ (n, bytes)
unfolding digits_at
none_taken zero n bytes e = refl
none_taken (suc k) n [] e = refl
none_taken (suc k) n (b ∷ bytes) e = no_step (is_hex_digit b) k n (value_of b) b bytes e

-- no digit stands here
pub digits_end : (i n : ℕ) (bytes : List ℕ) (total : ℕ × List ℕ) → digit_here bytes ≡ None → digits_at (8 - i) n bytes
    ≡ total → (n, bytes) ≡ total
digits_end i n bytes total e so_far = sym (none_taken (8 - i) n bytes e) ∙ so_far

-- eight digits were read
pub digits_full : (i n : ℕ) (bytes : List ℕ) (total : ℕ × List ℕ) → 8 ≤ i → digits_at (8 - i) n bytes ≡ total
    → (n, bytes) ≡ total
unfolding digits_at
digits_full i n bytes total le so_far =
    let k : 8 - i ≡ 0 = omega (arith, le) in
    sym (ap (λ (j : ℕ). digits_at j n bytes) k) ∙ so_far

-- a digit more, and the number stays below its bound
pub number_more : (i n v : ℕ) → n < 16 ^ i → v < 16 → n * 16 + v < 16 ^ (i + 1)
number_more i n v below digit =
    let power : 16 ^ (i + 1) ≡ 16 ^ i * 16 = ap (λ (j : ℕ). 16 ^ j) (omega arith) ∙ pow-suc 16 i in
    omega (arith, power, below, digit)

pub number_fits : (i n v : ℕ) → i < 8 → n < 16 ^ i → v < 16 → n * 16 + v < 2 ^ 32
number_fits i n v lt below digit =
    let more : n * 16 + v < 16 ^ (i + 1) = number_more i n v below digit in
    let most : 16 ^ (i + 1) ≤ 16 ^ 8 = pow-le-pow_right {n = 16} (omega arith) {i = i + 1} {j = 8} (omega (arith, lt))
    in
    omega (arith, more, most)
