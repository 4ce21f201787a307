-- A line's name: the bytes up to the first that stands in no name.
use Rattle.std.proofs.Common.{◌≡◌, ℕ, zero, suc, ◌+◌, ◌<◌, ◌≤◌, ◌==◌, ◌&&◌, Bool, true, false, not, List, [], ◌∷◌}
use Rattle.std.proofs.Common.{length, get_or, take, drop, Some, None, refl, sym, ap, ◌∙◌, subst, arith, inl, inr}
use Rattle.std.specs.List.{list_any, list_all, position_or_len, position, before_first}
use Rattle.std.proofs.lemmas.Bool.{ne_eqb, eqb-true, eq-eqb, and_right, and_from, and_parts, not_from_false, cases_Bool}
use Rattle.std.proofs.lemmas.Bool.Decides.{nat_tests}
use Rattle.std.proofs.lemmas.List.Sums.{fails_before_first}
use Rattle.std.proofs.lemmas.List.Quantifiers.{position-Some}
use Rattle.ad_ldif.specs.Fields.{is_name_byte, is_name, is_colon, is_nul, is_line, name_of, behind_colon}
use Rattle.ad_ldif.specs.Lines.{is_empty}

abbrev no_name : ℕ → Bool
no_name b = not (is_name_byte b)

-- ---- a byte of a name is neither a colon nor a NUL

of_name : (b : ℕ) → no_name b ≡ false → is_name_byte b ≡ true
of_name b e = elim (cases_Bool (is_name_byte b)) [
  | inl yes_name ↦ yes_name
  | inr other ↦ let both : no_name b ≡ true = rw other refl in absurd cc
]

no_colon : (b : ℕ) → is_name_byte b ≡ true → is_colon b ≡ false
no_colon b e = ne_eqb b 58 (λ is. let other : is_name_byte 58 ≡ true = subst (λ (c : ℕ). is_name_byte c ≡ true) is e
    in absurd cc)

no_nul : (b : ℕ) → is_name_byte b ≡ true → is_nul b ≡ false
no_nul b e = ne_eqb b 0 (λ is. let other : is_name_byte 0 ≡ true = subst (λ (c : ℕ). is_name_byte c ≡ true) is e
    in absurd cc)

-- ---- the bytes before the place n are a name's

abbrev AllOfName : List ℕ → ℕ → Type 0
AllOfName text n = (k : ℕ) → k < n → no_name (get_or text k 0) ≡ false

behind_one : (b : ℕ) (text : List ℕ) (n : ℕ) → AllOfName (b ∷ text) (suc n) → AllOfName text n
behind_one b text n names = λ k lt. names (suc k) (omega (arith, lt))

-- a colon at the place n is the first
colon_first : (text : List ℕ) (n : ℕ) → AllOfName text n → n < length text → get_or text n 0 ≡ 58
    → position_or_len is_colon text ≡ n
colon_first [] n names lt e = absurd (omega (arith, lt))
colon_first (b ∷ text) zero names lt e = rw e refl
colon_first (b ∷ text) (suc n) names lt e =
    let behind : position_or_len is_colon text ≡ n = colon_first text n (behind_one b text n names)
    (omega (arith, lt)) e in
    rw (no_colon b (of_name b (names 0 (omega arith)))) (omega (arith, behind))

colon_any : (text : List ℕ) (n : ℕ) → AllOfName text n → n < length text → get_or text n 0 ≡ 58
    → list_any is_colon text ≡ true
colon_any [] n names lt e = absurd (omega (arith, lt))
colon_any (b ∷ text) zero names lt e = rw e refl
colon_any (b ∷ text) (suc n) names lt e = rw (no_colon b (of_name b (names 0 (omega arith))))
    (colon_any text n (behind_one b text n names) (omega (arith, lt)) e)

names_all : (text : List ℕ) (n : ℕ) → AllOfName text n → n < length text → list_all is_name_byte (take n text) ≡ true
names_all [] n names lt = absurd (omega (arith, lt))
names_all (b ∷ text) zero names lt = refl
names_all (b ∷ text) (suc n) names lt = rw (of_name b (names 0 (omega arith)))
    (names_all text n (behind_one b text n names) (omega (arith, lt)))

-- a NUL stands after the colon, if anywhere
nul_behind : (text : List ℕ) (n : ℕ) → AllOfName text n → n < length text → get_or text n 0 ≡ 58
    → list_any is_nul text ≡ list_any is_nul (drop (suc n) text)
nul_behind [] n names lt e = absurd (omega (arith, lt))
nul_behind (b ∷ text) zero names lt e = rw e refl
nul_behind (b ∷ text) (suc n) names lt e = rw (no_nul b (of_name b (names 0 (omega arith))))
    (nul_behind text n (behind_one b text n names) (omega (arith, lt)) e)

take_one : (b : ℕ) (text : List ℕ) (n : ℕ) → take (1 + n) (b ∷ text) ≡ b ∷ take n text
take_one b text n = let more : 1 + n ≡ suc n = omega arith in ap (λ (k : ℕ). take k (b ∷ text)) more

-- a byte at the place n that is neither a name's nor a colon stands before each colon
other_first : (text : List ℕ) (n : ℕ) → AllOfName text n → (n < length text → no_name (get_or text n 0) ≡ true)
    → (n < length text → get_or text n 0 ≡ 58 → ⊥)
    → (list_any is_colon text && list_all is_name_byte (before_first is_colon text)) ≡ false
other_first [] n names ends other = refl
other_first (b ∷ text) zero names ends other =
    let colon : is_colon b ≡ false = ne_eqb b 58 (other (omega arith)) in
    let end : no_name b ≡ true = ends (omega arith) in
    let byte : is_name_byte b ≡ false = elim (cases_Bool (is_name_byte b)) [
      | inl yes_name ↦ let both : no_name b ≡ false = rw yes_name refl in absurd cc
      | inr is ↦ is
    ] in
    rw (colon, take_one, byte) (and_right _ _ refl)
other_first (b ∷ text) (suc n) names ends other =
    let byte : is_name_byte b ≡ true = of_name b (names 0 (omega arith)) in
    rw (no_colon b byte, take_one, byte) (other_first text n (behind_one b text n names)
    (λ lt. ends (omega (arith, lt))) (λ lt. other (omega (arith, lt))))

-- ---- no line

no_line : (text : List ℕ) (a b c : Bool) → (a && c) ≡ false → (a && b && c) ≡ false
no_line text true true c e = e
no_line text true false c e = refl
no_line text false b c e = refl

not_line : (text : List ℕ) → (list_any is_colon text && is_name (before_first is_colon text)) ≡ false → is_line text
    ≡ false
unfolding is_line
not_line text e = no_line text (list_any is_colon text) _ _ e

weaker : (a b c : Bool) → (a && c) ≡ false → (a && (b && c)) ≡ false
weaker a true c e = e
weaker a false c e = and_right a _ refl

pub none_named : (text : List ℕ) → position no_name text ≡ None → is_line text ≡ false
none_named text e =
    let all : length text ≤ position_or_len no_name text = grind (arith, nat_tests) in
    not_line text (weaker (list_any is_colon text) (not (is_empty (before_first is_colon text))) _
    (other_first text (length text) (λ k lt. fails_before_first no_name text k 0 (omega (arith, lt, all)))
    (λ lt. absurd (omega (arith, lt))) (λ lt. absurd (omega (arith, lt)))))

-- ---- what the code finds: the first byte that no name has stands at n, and is a colon or none

abbrev Tested : List ℕ → ℕ → Bool
Tested text n = not (n == 0) && get_or text n 0 == 58

at_name : (text : List ℕ) (n : ℕ) → Some n ≡ position no_name text → (n < length text)
    × (no_name (get_or text n 0) ≡ true) × AllOfName text n
at_name text n e = position-Some no_name text n 0 (sym e)

no_name_empty : (b : ℕ) (text : List ℕ) → is_colon b ≡ true
    → (list_any is_colon (b ∷ text) && is_name (before_first is_colon (b ∷ text))) ≡ false
no_name_empty b text e = rw e refl

not_tested : (n c : ℕ) → 0 < n → (not (n == 0) && c == 58) ≡ false → c ≡ 58 → ⊥
not_tested n c lt e is =
    let some : not (n == 0) ≡ true = not_from_false (n == 0) (ne_eqb n 0 (λ none. omega (arith, lt, none))) in
    let both : (not (n == 0) && c == 58) ≡ true = and_from _ _ some (eq-eqb c 58 is) in
    cc

other_at : (text : List ℕ) (n : ℕ) → AllOfName text n → n < length text → no_name (get_or text n 0) ≡ true
    → Tested text n ≡ false → (list_any is_colon text && is_name (before_first is_colon text)) ≡ false
other_at [] n names lt ends e = absurd (omega (arith, lt))
other_at (b ∷ text) zero names lt ends e = elim (cases_Bool (is_colon b)) [
  | inl colon ↦ no_name_empty b text colon
  | inr none ↦ weaker _ (not (is_empty (before_first is_colon (b ∷ text)))) _
      (other_first (b ∷ text) zero names (λ _. ends) (λ _ is. let colon : is_colon b ≡ true = eq-eqb b 58 is in cc))
]
other_at (b ∷ text) (suc n) names lt ends e =
    weaker (list_any is_colon (b ∷ text)) (not (is_empty (before_first is_colon (b ∷ text)))) _
    (other_first (b ∷ text) (suc n) names (λ _. ends) (λ _ is. not_tested (suc n) _ (omega arith) e is))

pub other_named : (text : List ℕ) (n : ℕ) → Some n ≡ position no_name text → Tested text n ≡ false → is_line text
    ≡ false
other_named text n is e = let found = at_name text n is in not_line text (other_at text n found.2 found.0 found.1 e)

colon_at : (text : List ℕ) (n : ℕ) → Tested text n ≡ true → get_or text n 0 ≡ 58
colon_at text n e = eqb-true _ _ (and_parts _ _ e).1

named_at : (text : List ℕ) (n : ℕ) → Some n ≡ position no_name text → Tested text n ≡ true → position_or_len is_colon
    text ≡ n
named_at text n is e = let found = at_name text n is in colon_first text n found.2 found.0 (colon_at text n e)

pub named_name : (text : List ℕ) (n : ℕ) → Some n ≡ position no_name text → Tested text n ≡ true → name_of text
    ≡ take n text
unfolding name_of
named_name text n is e = ap (λ (k : ℕ). take k text) (named_at text n is e)

pub named_behind : (text : List ℕ) (n : ℕ) → Some n ≡ position no_name text → Tested text n ≡ true → behind_colon text
    ≡ drop (n + 1) text
unfolding behind_colon
named_behind text n is e = ap (λ (k : ℕ). drop (k + 1) text) (named_at text n is e)

is_named : (text : List ℕ) (n : ℕ) → AllOfName text n → n < length text → (n == 0) ≡ false → is_name (take n text)
    ≡ true
is_named text zero names lt some = absurd cc
is_named [] (suc n) names lt some = absurd (omega (arith, lt))
is_named (b ∷ text) (suc n) names lt some = names_all (b ∷ text) (suc n) names lt

three : (a b c d : Bool) → a ≡ true → c ≡ true → b ≡ d → (a && not b && c) ≡ not d
three true true true d x y same = ap not same
three true false true d x y same = ap not same
three true b false d x y same = absurd cc
three false b c d x y same = absurd cc

pub named_line : (text : List ℕ) (n : ℕ) → Some n ≡ position no_name text → Tested text n ≡ true → is_line text
    ≡ not (list_any is_nul (drop (n + 1) text))
unfolding is_line
named_line text n is e =
    let found = at_name text n is in
    let some : (n == 0) ≡ false = ne_eqb n 0 (λ none. let test : not (n == 0) ≡ true = (and_parts _ _ e).0
    in let other : not (n == 0) ≡ false = rw none refl in cc) in
    let name : is_name (before_first is_colon text) ≡ true = ap (λ (k : ℕ). is_name (take k text))
    (named_at text n is e) ∙ is_named text n found.2 found.0 some in
    let colon : list_any is_colon text ≡ true = colon_any text n found.2 found.0 (colon_at text n e) in
    let next : suc n ≡ n + 1 = omega arith in
    let nul : list_any is_nul text ≡ list_any is_nul (drop (n + 1) text) = nul_behind text n found.2 found.0
    (colon_at text n e) ∙ ap (λ (k : ℕ). list_any is_nul (drop k text)) next in
    three (list_any is_colon text) (list_any is_nul text) _ _ colon name nul
