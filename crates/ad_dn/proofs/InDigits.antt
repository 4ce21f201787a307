-- What is known of a byte that is written in digits, and of the character that it is of.
use Rattle.std.proofs.Common.{Bool, nat_le, eqb, ◌≡◌, ◌⊎◌, inl, inr, ℕ, suc, ◌+◌, ◌-◌}
use Rattle.std.proofs.Common.{◌<◌, ◌≤◌, true, false, if◌then◌else◌, Some, List, [], ◌∷◌, refl, sym, ap, subst}
use Rattle.std.proofs.Common.{◌∙◌, arith, lt-ltb, le-ltb}
use Rattle.std.specs.List.{AllByRecursion}
use Rattle.std.proofs.lemmas.Bool.{cases_Bool, cases_lt, eqb-true}
use Rattle.std.proofs.lemmas.Bool.Decides.{nat_tests}
use Rattle.uuid.specs.Text.{hex_digit, upper, is_hex_digit, value_of}
use Rattle.ad_dn.specs.declared.utf8_state.Utf8State.{Utf8State}
use Rattle.ad_dn.specs.Utf8State.{size, due_after}
use Rattle.ad_dn.specs.Text.{is_control, is_hidden_two, is_hidden_three, hidden_by}
use Rattle.ad_dn.proofs.Utf8.{Fills, size_1, size_2, size_3, size_over, at_first, at_later}
use Rattle.ad_dn.proofs.Follow.{IsDue, next_of, due_kept, began, went_on}

-- ---- digits

-- a digit, and what it is worth
pub record IsDigit (d n : ℕ) : Type 0 where
  pub digit : is_hex_digit d ≡ true
  pub value : value_of d ≡ n
  pub ascii : d < 128

pub upper_digit : (n : ℕ) → n < 16 → IsDigit (hex_digit upper n) n
upper_digit n small = elim (cases_lt n 10) [
  | inl low ↦ subst (λ (d : ℕ). IsDigit d n) (sym (ap (λ (t : Bool). if t then 48 + n else 65 + n - 10) (lt-ltb n 10 low)))
      (decimal low)
  | inr high ↦ subst (λ (d : ℕ). IsDigit d n)
      (sym (ap (λ (t : Bool). if t then 48 + n else 65 + n - 10) (le-ltb n 10 high)))
      (letter (65 + n - 10) (omega (arith, high)) (omega (arith, high, small)))
]
  where
    decimal : n < 10 → IsDigit (48 + n) n
    decimal low = record {
      digit = is (48 + n) (omega arith) (omega (arith, low));
      value = rw (within (48 + n) (omega (arith, low))) (less (48 + n) (omega arith));
      ascii = omega (arith, low);
    }
      where
        is : (d : ℕ) → 48 ≤ d → d < 58 → is_hex_digit d ≡ true
        is d l h = grind (arith, nat_tests)

        within : (d : ℕ) → d < 58 → nat_le d 57 ≡ true
        within d h = grind (arith, nat_tests)

        less : (d : ℕ) → d ≡ 48 + n → d - 48 ≡ n
        less d e = omega (arith, e)

    letter : (d : ℕ) → d ≡ 55 + n → 65 ≤ d → IsDigit d n
    letter d e l = record {
      digit = is d l (omega (arith, e, small));
      value = rw (over d l, below d (omega (arith, e, small))) (omega (arith, e));
      ascii = omega (arith, e, small);
    }
      where
        is : (c : ℕ) → 65 ≤ c → c < 71 → is_hex_digit c ≡ true
        is c k h = grind (arith, nat_tests)

        over : (c : ℕ) → 65 ≤ c → nat_le c 57 ≡ false
        over c k = grind (arith, nat_tests)

        below : (c : ℕ) → c < 71 → nat_le 97 c ≡ false
        below c h = grind (arith, nat_tests)

-- ---- bytes

abbrev pub IsSmall : ℕ → Type 0
IsSmall b = b < 256

small_size : (b : ℕ) → 1 ≤ size b → b < 256
small_size b some = elim (cases_lt b 245) [
  | inl below ↦ omega (arith, below)
  | inr over ↦ let none = size_over b over in absurd (omega (arith, some, none))
]

pub small_byte : (d e : Utf8State) (b : ℕ) → IsDue d → due_after 0 d b ≡ Some e → b < 256
small_byte d e b h is = elim (cases_lt 0 d.more) [
  | inr over ↦ small_size b (began 0 b e (sym (at_first 0 b d (omega arith)) ∙ is)).some
  | inl some ↦
      let w = went_on d e b (sym (at_later 0 b d some) ∙ is) in
      let most : b ≤ d.high = w.1 in
      elim h.high [
        | inl x ↦ omega (arith, most, x)
        | inr o ↦ elim o [
          | inl x ↦ omega (arith, most, x)
          | inr x ↦ omega (arith, most, x)
        ]
      ]
]

pub small_bytes : (d : Utf8State) (bytes : List ℕ) → IsDue d → Fills (Some d) bytes → AllByRecursion IsSmall bytes
small_bytes d [] h f = tt
small_bytes d (b ∷ bytes) h f =
    let n = next_of (due_after 0 d b) bytes f in
    (small_byte d n.0 b h n.1, small_bytes n.0 bytes (due_kept 0 b d n.0 h n.1) n.2)

-- ---- characters that are written in digits

-- none of their bytes is NUL but by itself
pub no_nul : (b x y : ℕ) → hidden_by b x y ≡ 0 → eqb b 0 ≡ false
no_nul b x y none = elim (cases_Bool (eqb b 0)) [
  | inr other ↦ other
  | inl nul ↦ absurd (one (subst (λ (n : ℕ). hidden_by n x y ≡ 0) (eqb-true b 0 nul) none))
]
  where
    one : hidden_by 0 x y ≡ 0 → ⊥
    one e = omega (arith, e)

-- The first byte tells how many there are, and stands where a character begins.
pub record IsHidden (b k : ℕ) : Type 0 where
  pub size : size b ≡ suc k
  pub few : k ≤ 3
  pub lead : (b < 128) ⊎ (192 ≤ b)

control_small : (b : ℕ) → is_control b ≡ true → b < 128
control_small b e = grind (arith, nat_tests)

two_lead : (b x : ℕ) → is_hidden_two b x ≡ true → (194 ≤ b) × (b < 224)
two_lead b x e = (low e, high e)
  where
    low : is_hidden_two b x ≡ true → 194 ≤ b
    low e' = grind (arith, nat_tests)

    high : is_hidden_two b x ≡ true → b < 224
    high e' = grind (arith, nat_tests)

three_lead : (b x y : ℕ) → is_hidden_three b x y ≡ true → (224 ≤ b) × (b < 240)
three_lead b x y e = (low e, high e)
  where
    low : is_hidden_three b x y ≡ true → 224 ≤ b
    low e' = grind (arith, nat_tests)

    high : is_hidden_three b x y ≡ true → b < 240
    high e' = grind (arith, nat_tests)

pub hidden : (b x y k : ℕ) → hidden_by b x y ≡ suc k → IsHidden b k
hidden b x y k e = first (is_control b) refl e
  where
    third : (t : Bool) → is_hidden_three b x y ≡ t → (if t then 3 else 0) ≡ suc k → IsHidden b k
    third false is h = absurd (omega (arith, h))
    third true is h =
        let l = three_lead b x y is in
        let two : k ≡ 2 = omega (arith, h) in
        record { size = size_3 b l.0 l.1 ∙ ap suc (sym two); few = omega (arith, two); lead = inr (omega (arith, l.0)) }

    second : (t : Bool) → is_hidden_two b x ≡ t
        → (if t then 2 else if is_hidden_three b x y then 3 else 0) ≡ suc k → IsHidden b k
    second false is h = third (is_hidden_three b x y) refl h
    second true is h =
        let l = two_lead b x is in
        let one : k ≡ 1 = omega (arith, h) in
        record { size = size_2 b l.0 l.1 ∙ ap suc (sym one); few = omega (arith, one); lead = inr (omega (arith, l.0)) }

    first : (t : Bool) → is_control b ≡ t
        → (if t then 1 else if is_hidden_two b x then 2 else if is_hidden_three b x y then 3 else 0) ≡ suc k
        → IsHidden b k
    first false is h = second (is_hidden_two b x) refl h
    first true is h =
        let small = control_small b is in
        let none : k ≡ 0 = omega (arith, h) in
        record { size = size_1 b small ∙ ap suc (sym none); few = omega (arith, none); lead = inl small }
