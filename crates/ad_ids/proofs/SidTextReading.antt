-- An identifier's text takes its reader step by step to the identifier.
use Rattle.std.proofs.Common.{Bool, eqb, nat_le, nat_lt, ◌≡◌, inl, inr, ℕ, zero, suc, ◌+◌, ◌-◌, ◌*◌, ◌/◌, ◌%◌, ◌^◌}
use Rattle.std.proofs.Common.{◌<◌, ◌≤◌, true, false, Option, Some, List, [], ◌∷◌, ◌++◌, length, refl, sym, ap, subst}
use Rattle.std.proofs.Common.{◌∙◌, append_assoc, arith, codes, decimal}
use Rattle.std.specs.Prelude.{◌&&◌, ◌||◌}
use Rattle.std.proofs.lemmas.Bool.{cases_Bool, eqb-true}
use Rattle.std.proofs.lemmas.Bool.Decides.{nat_tests}
use Rattle.uuid.specs.Text.{is_hex_digit, value_of}
use Rattle.std.specs.List.{AllByRecursion}
use Rattle.std.proofs.lemmas.List.{append-nil, length-append}
use Rattle.std.proofs.lemmas.Fmt.{decimal_by_steps}
use Rattle.ad_bytes.proofs.Machines as machine
use Rattle.ad_ids.specs.declared.sid.reading.State.{State}
use Rattle.ad_ids.specs.declared.sid.reading.Before.{Before}
use Rattle.ad_ids.specs.declared.sid.reading.Before.TheVariants.{Front, Decimal, Hex, Hyphen, Number}
use Rattle.ad_ids.specs.SidGrammar.{IsFront, SpellsHex, SpellsAuthority, SpellsSidText}
use Rattle.ad_ids.specs.SidValue.{SidValue}
use Rattle.ad_ids.specs.SidText.{others_text}
use Rattle.ad_ids.specs.SidSteps.{state, is_digit, more_digits, with_number, step, step_from, hex_step, from_there}
use Rattle.ad_ids.specs.SidSteps.{start, finished}

-- the machine of the texts
pub run_append : (o : Option State) (xs ys : List ℕ) → from_there o (xs ++ ys) ≡ from_there (from_there o xs) ys
run_append o xs ys = machine.run_append step o xs ys

pub front_read : (f : List ℕ) → IsFront f → from_there (Some start) f ≡ Some (state Front 0 0 [])
unfolding step_from
front_read f h = ap (from_there (Some start)) h.parts
    ∙ elim h.is_s [
      | inl e ↦ ap (λ (l : ℕ). from_there (Some start) (l ∷ codes "-1-")) e ∙ refl
      | inr e
          ↦ ap (λ (l : ℕ). from_there (Some start) (l ∷ codes "-1-")) e ∙ refl
    ]

pub digit_more : (n : ℕ) → 10 ≤ n → n < 2 ^ 32 → more_digits (n / 10) (48 + n % 10) ≡ Some n
digit_more n low high =
    let whole : n / 10 * 10 + (48 + n % 10 - 48) ≡ n = omega arith in
    rw whole (grind (arith, nat_tests))

pub and_false : (b : Bool) → (b && false) ≡ false
and_false true = refl
and_false false = refl

-- the power of the digits after the first four
sixteenth : (k n : ℕ) → 16 ^ (suc k - 4) ≤ n → 4 ≤ k → 16 ^ (k - 4) ≤ n / 16
sixteenth k n large le =
    let more : suc k - 4 ≡ suc (k - 4) = omega arith in
    let power : 16 ^ suc (k - 4) ≤ n = subst (λ (i : ℕ). 16 ^ i ≤ n) more large in
    omega (arith, power)

not_zero : (k n : ℕ) → (4 ≤ suc k → 16 ^ (suc k - 4) ≤ n) → (eqb k 3 && eqb n 0) ≡ false
not_zero k n large = elim (cases_Bool (eqb k 3)) [
  | inl three ↦
      let is_three : k ≡ 3 = eqb-true k 3 three in
      let four : 16 ^ (suc k - 4) ≤ n = large (omega arith) in
      let one : 16 ^ (suc 3 - 4) ≤ n = subst (λ (i : ℕ). 16 ^ (suc i - 4) ≤ n) is_three four in
      let positive : eqb n 0 ≡ false = grind (arith, nat_tests, one) in
      rw positive (and_false (eqb k 3))
  | inr other ↦ rw other refl
]

-- from a state the digits of n lead to one that holds n
abbrev Leads : State → Before → ℕ → List ℕ → ℕ → List ℕ → Type 0
Leads s before authority done n ds = n < 2 ^ 32 → from_there (Some s) ds ≡ Some (state before authority n done)

-- the digits of a number, from a state where its first digit may stand
pub digits_read : (s : State) (before : Before) (authority : ℕ) (done : List ℕ)
    → ((d : ℕ) → d < 10 → step s (48 + d) ≡ Some (state before authority d done))
    → ((n d : ℕ) → 0 < n → d < 10 → step (state before authority n done) (48 + d)
    ≡ with_number (state before authority n done) (more_digits n (48 + d)))
    → (n : ℕ) → n < 2 ^ 32 → from_there (Some s) (decimal n) ≡ Some (state before authority n done)
digits_read s before authority done first more n small =
    decimal_by_steps (Leads s before authority done) one next n (omega arith) small
  where
    one : (n : ℕ) → n < 10 → Leads s before authority done n ((48 + n) ∷ [])
    one n lt small = ap (λ (o : Option State). from_there o []) (first n lt)

    next : (n : ℕ) (ds : List ℕ) → 10 ≤ n → Leads s before authority done (n / 10) ds → Leads s before authority done
        n (ds ++ (48 + n % 10) ∷ [])
    next n ds low so_far small =
        run_append (Some s) ds ((48 + n % 10) ∷ [])
        ∙ ap (λ (o : Option State). from_there o ((48 + n % 10) ∷ [])) (so_far (omega arith))
        ∙ ap (λ (o : Option State). from_there o []) (more (n / 10) (n % 10) (omega arith) (omega arith)
        ∙ ap (with_number (state before authority (n / 10) done)) (digit_more n low small))

is_digit_of : (d : ℕ) → d < 10 → is_digit (48 + d) ≡ true
is_digit_of d lt = grind (arith, nat_tests)

no_hyphen : (d : ℕ) → eqb (48 + d) 45 ≡ false
no_hyphen d = grind (arith, nat_tests)

back : (d : ℕ) → 48 + d - 48 ≡ d
back d = omega arith

-- an authority in decimal
pub decimal_read : (n : ℕ) → n < 2 ^ 32 → from_there (Some (state Front 0 0 [])) (decimal n)
    ≡ Some (state Decimal 0 n [])
unfolding step_from
decimal_read = digits_read (state Front 0 0 []) Decimal 0 []
    (λ d lt. rw (is_digit_of d lt, back d) refl)
    (λ n d some lt. let positive : eqb n 0 ≡ false = grind (arith, nat_tests)
    in rw (no_hyphen d, positive, and_false (eqb (48 + d) 120)) refl)

-- a sub-authority
pub number_read : (authority m : ℕ) (done : List ℕ) (n : ℕ) → n < 2 ^ 32
    → from_there (Some (state Hyphen authority m done)) (decimal n) ≡ Some (state Number authority n done)
unfolding step_from
number_read authority m done = digits_read (state Hyphen authority m done) Number authority done
    (λ d lt. rw (is_digit_of d lt, back d) refl)
    (λ n d some lt. rw (no_hyphen d) refl)

hex_more : (k n last : ℕ) → is_hex_digit last ≡ true → value_of last ≡ n % 16 → n < 2 ^ 48 → suc k ≤ 12
    → (4 ≤ suc k → 16 ^ (suc k - 4) ≤ n) → step (state (Hex k) (n / 16) 0 []) last ≡ Some (state (Hex (suc k)) n 0 [])
unfolding step_from hex_step
hex_more k n last digit remainder small high large =
    let whole : n / 16 * 16 + value_of last ≡ n = omega (arith, remainder) in
    let not_all : eqb k 12 ≡ false = grind (arith, nat_tests) in
    let bounds : nat_le (2 ^ 44) (n / 16) || nat_lt 12 k ≡ false = grind (arith, nat_tests) in
    let some : (eqb k 3 && eqb n 0) ≡ false = not_zero k n large in
    rw (not_all, digit, bounds, whole, some) (ap (λ (i : ℕ). Some (state (Hex i) n 0 [])) (omega arith))

-- the digits of an authority in hexadecimal
pub hex_read : (k n : ℕ) (ds : List ℕ) → SpellsHex k n ds → n < 2 ^ 48 → k ≤ 12 → (4 ≤ k → 16 ^ (k - 4) ≤ n)
    → from_there (Some (state (Hex 0) 0 0 [])) ds ≡ Some (state (Hex k) n 0 [])
hex_read zero n ds s small high large = rw (s.0, s.1) refl
hex_read (suc k) n ds s small high large =
    let so_far = hex_read k (n / 16) s.front s.before (omega arith) (omega arith)
    (λ le. sixteenth k n (large (omega arith)) le) in
    ap (from_there (Some (state (Hex 0) 0 0 []))) s.parts
    ∙ run_append (Some (state (Hex 0) 0 0 [])) s.front (s.last ∷ [])
    ∙ ap (λ (o : Option State). from_there o (s.last ∷ [])) so_far
    ∙ ap (λ (o : Option State). from_there o []) (hex_more k n s.last s.digit s.remainder small high large)

-- an authority and the hyphen after it
pub authority_read : (n : ℕ) (text : List ℕ) → SpellsAuthority n text → n < 2 ^ 48 → (m : ℕ)
    × (from_there (Some (state Front 0 0 [])) (text ++ 45 ∷ []) ≡ Some (state Hyphen n m []))
unfolding step_from hex_step
authority_read n text (inl s) small = (
  n,
  run_append (Some (state Front 0 0 [])) text (45 ∷ []) ∙ ap (λ (o : Option State). from_there o (45 ∷ []))
      (ap (from_there (Some (state Front 0 0 []))) s.1 ∙ decimal_read n s.0),
)
authority_read n text (inr s) small =
    let digits = hex_read 12 n s.digits s.spelled small (omega arith) (λ _. s.large) in (
      0,
      ap (λ (t : List ℕ). from_there (Some (state Front 0 0 [])) (t ++ 45 ∷ [])) s.parts
          ∙ run_append (Some (state (Hex 0) 0 0 [])) s.digits (45 ∷ [])
          ∙ ap (λ (o : Option State). from_there o (45 ∷ [])) digits,
    )

-- the steps end with the whole identifier
pub record Finishes (o : Option State) (v : SidValue) : Type 0 where
  pub last : State
  pub steps : o ≡ Some last
  pub whole : finished last ≡ Some v

abbrev sid : ℕ → List ℕ → SidValue
sid authority others = record { authority = authority; sub_authorities = others }

-- the last sub-authority, and one before others
number_last : (authority n : ℕ) (done : List ℕ) → authority < 2 ^ 48 → length done + 1 ≤ 15
    → finished (state Number authority n done) ≡ Some (sid authority (done ++ n ∷ []))
number_last authority n done small room =
    let bounds : nat_le (2 ^ 48) authority || nat_le 15 (length done) ≡ false = grind (arith, nat_tests) in
    rw bounds refl

number_next : (authority n : ℕ) (done : List ℕ) → length done + 1 < 15 → step (state Number authority n done) 45
    ≡ Some (state Hyphen authority n (done ++ n ∷ []))
unfolding step_from
number_next authority n done room =
    let bounds : nat_le 14 (length done) ≡ false = grind (arith, nat_tests) in
    rw bounds refl

-- the sub-authorities
pub others_read : (authority m : ℕ) (done : List ℕ) (x : ℕ) (xs : List ℕ) → authority < 2 ^ 48
    → AllByRecursion (λ n. n < 2 ^ 32) (x ∷ xs) → length done + length (x ∷ xs) ≤ 15
    → Finishes (from_there (Some (state Hyphen authority m done)) (decimal x ++ others_text xs))
    (sid authority (done ++ x ∷ xs))
others_read authority m done x [] small all room = record {
  last = state Number authority x done;
  steps = ap (from_there (Some (state Hyphen authority m done))) (append-nil (decimal x)) ∙ number_read authority m
      done x all.0;
  whole = number_last authority x done small room;
}
others_read authority m done x (y ∷ ys) small all room =
    let longer : length (done ++ x ∷ []) ≡ length done + 1 = length-append done (x ∷ []) in
    let f = others_read authority x (done ++ x ∷ []) y ys small all.1 (omega arith) in
    let rest = decimal y ++ others_text ys in
    record {
      last = f.last;
      steps =
          run_append (Some (state Hyphen authority m done)) (decimal x) (45 ∷ rest)
          ∙ ap (λ (o : Option State). from_there o (45 ∷ rest)) (number_read authority m done x all.0)
          ∙ ap (λ (o : Option State). from_there o rest) (number_next authority x done (omega arith))
          ∙ f.steps;
      whole = f.whole ∙ ap (λ (others : List ℕ). Some (sid authority others)) (append_assoc done (x ∷ []) (y ∷ ys));
    }

-- the prefix, the authority and the sub-authorities
parts_read : (front authority : List ℕ) (n : ℕ) (others : List ℕ) → IsFront front → SpellsAuthority n authority → n
    < 2 ^ 48 → 1 ≤ length others → length others ≤ 15 → AllByRecursion (λ n. n < 2 ^ 32) others
    → Finishes (from_there (Some start) (front ++ (authority ++ others_text others))) (sid n others)
parts_read front authority n [] f s small some room all = absurd (omega arith)
parts_read front authority n (x ∷ xs) f s small some room all =
    let rest = decimal x ++ others_text xs in
    let a = authority_read n authority s small in
    let o = others_read n a.0 [] x xs small all (omega arith) in
    record {
      last = o.last;
      steps =
          run_append (Some start) front (authority ++ 45 ∷ rest)
          ∙ ap (λ (q : Option State). from_there q (authority ++ 45 ∷ rest)) (front_read front f)
          ∙ ap (from_there (Some (state Front 0 0 []))) (sym (append_assoc authority (45 ∷ []) rest))
          ∙ run_append (Some (state Front 0 0 [])) (authority ++ 45 ∷ []) rest
          ∙ ap (λ (q : Option State). from_there q rest) a.1
          ∙ o.steps;
      whole = o.whole;
    }

-- each text of the grammar is read, with its value
pub text_read : (v : SidValue) (text : List ℕ) → SpellsSidText v text → machine.Finishes step start finished v text
text_read v text s =
    let p = parts_read s.front s.authority v.authority v.sub_authorities s.is_front s.spelled s.is_sid.authority
    s.is_sid.at_least_one s.is_sid.at_most_15 s.is_sid.sub_authorities in
    record {
      last = p.last;
      steps = ap (from_there (Some start))
          (s.parts ∙ append_assoc s.front s.authority (others_text v.sub_authorities)) ∙ p.steps;
      whole = p.whole;
    }
