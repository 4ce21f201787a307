-- What the operations on masks do to one bit.
use Rattle.std.proofs.Common.{◌≡◌, ℕ, ◌*◌, ◌/◌, ◌^◌, ◌<◌, ◌-◌, true, false, not, ◌&&◌, ◌||◌, min, max, sym, ap, ◌∙◌}
use Rattle.std.proofs.Common.{inl, inr, arith}
use Rattle.std.specs.Prelude.{◌==◌, nat_eq, nat_lt, bit_and, bit_or}
use Rattle.std.specs.Int.{bit_at, bit_not, w32}
use Rattle.std.proofs.lemmas.Bool.{cases_lt, cases_order, lt-ltb, le-ltb, eq-eqb, ne_eqb}
use Rattle.std.proofs.lemmas.Bool.Decides.{nat_tests}
use Rattle.std.proofs.lemmas.Nat.{pow_pos}
use Rattle.std.proofs.lemmas.Nat.Bits.{bit_at-lt, bit_at_and, bit_at_or, bit_at_not, bit_at-zero, bit_at_ones}
use Rattle.std.proofs.lemmas.Nat.Bits.{bit_at_ones_above, and_pow}
use Rattle.ad_acl.specs.Mask.{has_bit}

min_test : (x y : ℕ) → x < 2 → y < 2 → (min x y == 1) ≡ (x == 1) && (y == 1)
min_test x y hx hy = grind (arith, nat_tests)

max_test : (x y : ℕ) → x < 2 → y < 2 → (max x y == 1) ≡ (x == 1) || (y == 1)
max_test x y hx hy = grind (arith, nat_tests)

other_test : (x : ℕ) → x < 2 → (1 - x == 1) ≡ not (x == 1)
other_test x hx = grind (arith, nat_tests)

pub has_bit-zero : (i : ℕ) → has_bit 0 i ≡ false
unfolding has_bit
has_bit-zero i = ap (λ (n : ℕ). n == 1) (bit_at-zero i)

pub has_bit-and : (a b i : ℕ) → has_bit (bit_and a b) i ≡ has_bit a i && has_bit b i
unfolding has_bit
has_bit-and a b i = ap (λ (n : ℕ). n == 1) (bit_at_and a b i) ∙ min_test (bit_at a i) (bit_at b i) (bit_at-lt a i)
    (bit_at-lt b i)

pub has_bit-or : (a b i : ℕ) → has_bit (bit_or a b) i ≡ has_bit a i || has_bit b i
unfolding has_bit
has_bit-or a b i = ap (λ (n : ℕ). n == 1) (bit_at_or a b i) ∙ max_test (bit_at a i) (bit_at b i) (bit_at-lt a i)
    (bit_at-lt b i)

pub has_bit-not : (n i : ℕ) → n < 2 ^ 32 → i < 32 → has_bit (bit_not w32 n) i ≡ not (has_bit n i)
unfolding has_bit
has_bit-not n i small lt = ap (λ (x : ℕ). x == 1) (bit_at_not w32 n i small lt) ∙ other_test (bit_at n i)
    (bit_at-lt n i)

-- a run of ones from the lowest bit
pub has_bit-ones : (k i : ℕ) → has_bit (2 ^ k - 1) i ≡ nat_lt i k
unfolding has_bit
has_bit-ones k i =
    elim (cases_lt i k) [
      | inl below ↦ ap (λ (x : ℕ). x == 1) (bit_at_ones k i below) ∙ sym (lt-ltb i k below)
      | inr above ↦ ap (λ (x : ℕ). x == 1) (bit_at_ones_above k i above) ∙ sym (le-ltb i k above)
    ]

tested-at : (b p : ℕ) → b < 2 → 0 < p → not (nat_eq (b * p) 0) ≡ (b == 1)
tested-at b p small above =
    elim (cases_order b 1) [
      | inl one ↦ ap (λ (x : ℕ). not (nat_eq (x * p) 0)) one ∙ ap not (ne_eqb (1 * p) 0 (λ e. omega arith))
          ∙ sym (eq-eqb b 1 one)
      | inr (inl below) ↦ let zero : b ≡ 0 = omega arith in ap (λ (x : ℕ). not (nat_eq (x * p) 0)) zero
          ∙ ap not (eq-eqb (0 * p) 0 (omega arith)) ∙ sym (ne_eqb b 1 (λ e. omega arith))
      | inr (inr above_one) ↦ absurd (omega arith)
    ]

-- the test of one bit by masking
pub masked : (n k : ℕ) → not (nat_eq (bit_and n (2 ^ k)) 0) ≡ has_bit n k
unfolding has_bit
masked n k = ap (λ (x : ℕ). not (nat_eq x 0)) (and_pow n k) ∙ tested-at (bit_at n k) (2 ^ k) (bit_at-lt n k) (pow_pos k)

-- the rights that a generic right represents, where the mask has it
pub stood_none : (mask generic rights place bit : ℕ) → generic ≡ 2 ^ place → bit_and mask generic ≡ 0 → has_bit 0 bit
    ≡ has_bit mask place && has_bit rights bit
stood_none mask generic rights place bit is none =
    let clear : has_bit mask place ≡ false = sym (masked mask place) ∙ ap (λ (g : ℕ). not (nat_eq (bit_and mask g) 0))
    (sym is) ∙ ap (λ (n : ℕ). not (nat_eq n 0)) none in
    has_bit-zero bit ∙ ap (λ b. b && has_bit rights bit) (sym clear)

pub stood_all : (mask generic rights place bit : ℕ) → generic ≡ 2 ^ place → (bit_and mask generic ≡ 0 → ⊥)
    → has_bit rights bit ≡ has_bit mask place && has_bit rights bit
stood_all mask generic rights place bit is some =
    let set : has_bit mask place ≡ true = sym (masked mask place) ∙ ap (λ (g : ℕ). not (nat_eq (bit_and mask g) 0))
    (sym is) ∙ ap not (ne_eqb (bit_and mask generic) 0 some) in
    ap (λ b. b && has_bit rights bit) (sym set)
