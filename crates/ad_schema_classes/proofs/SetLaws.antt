-- The set of a class is the least one.
use Rattle.std.proofs.Common.{◌≡◌, ℕ, zero, suc, ◌+◌, ◌-◌, ◌<◌, ◌≤◌, ◌⊎◌, inl, inr, Bool, true, false, ◌||◌, ◌&&◌}
use Rattle.std.proofs.Common.{cond, ltb, List, [], ◌∷◌, length, refl, sym, ap, subst, ◌∙◌, arith}
use Rattle.std.proofs.lemmas.Bool.{and_parts, ltb-true, or_right}
use Rattle.std.proofs.lemmas.Bool.Decides.{nat_tests}
use Rattle.ad_schema_classes.specs.Chains.{contains, list_at, listed, grown, set_within, set_of, IsClosedSet}
use Rattle.ad_schema_classes.specs.Chains.{IsLeastSet}
use Rattle.ad_schema_classes.proofs.RowLemmas.{grown_same}

or_cases : (a b : Bool) → a || b ≡ true → (a ≡ true) ⊎ (b ≡ true)
or_cases true b e = inl refl
or_cases false b e = inr e

or_left : (a b : Bool) → a ≡ true → a || b ≡ true
or_left a b e = rw e refl

-- ---- what a list of a set's classes has

record Listed (s : ℕ → Bool) (n : ℕ) (lists : List (List ℕ)) (k : ℕ) : Type 0 where
  place : ℕ
  low : place < length lists
  has : s (n + place) ≡ true
  names : contains (list_at lists place) k ≡ true

listed_in : (s : ℕ → Bool) (n : ℕ) (lists : List (List ℕ)) (k : ℕ) → listed s n lists k ≡ true → Listed s n lists k
unfolding listed list_at
listed_in s n [] k e = absurd cc
listed_in s n (list ∷ lists) k e = by_cases (listed_in s (n + 1) lists k)
    (or_cases (s n && contains list k) (listed s (n + 1) lists k) e)
  where
    by_cases : (listed s (n + 1) lists k ≡ true → Listed s (n + 1) lists k) → (s n && contains list k ≡ true)
        ⊎ (listed s (n + 1) lists k ≡ true) → Listed s n (list ∷ lists) k
    by_cases among (inl here) =
        let both = and_parts (s n) (contains list k) here in
        let same : n ≡ n + 0 = omega arith in
        record { place = 0; low = omega arith; has = ap s (sym same) ∙ both.0; names = both.1 }
    by_cases among (inr more) =
        let rest = among more in
        let same : n + suc rest.place ≡ n + 1 + rest.place = omega arith in
        record { place = suc rest.place; low = omega (arith, rest.low); has = ap s same ∙ rest.has; names = rest.names }

listed_by : (s : ℕ → Bool) (n : ℕ) (lists : List (List ℕ)) (k place : ℕ) → place < length lists → s (n + place) ≡ true
    → contains (list_at lists place) k ≡ true → listed s n lists k ≡ true
unfolding listed list_at
listed_by s n [] k place low has names = absurd (omega (arith, low))
listed_by s n (list ∷ lists) k zero low has names =
    let same : n + 0 ≡ n = omega arith in
    let here : s n ≡ true = ap s (sym same) ∙ has in
    rw (here, names) refl
listed_by s n (list ∷ lists) k (suc place) low has names =
    let same : n + 1 + place ≡ n + suc place = omega arith in
    or_right (s n && contains list k) _ (listed_by s (n + 1) lists k place (omega (arith, low)) (ap s same ∙ has) names)

-- ---- how many there are below a place

count : (ℕ → Bool) → ℕ → ℕ
count s zero = 0
count s (suc n) = count s n + cond (s n) 1 0

count_most : (s : ℕ → Bool) (n : ℕ) → count s n ≤ n
unfolding count
count_most s zero = omega arith
count_most s (suc n) = by_flag (count_most s n) (s n)
  where
    by_flag : count s n ≤ n → (b : Bool) → count s n + cond b 1 0 ≤ suc n
    by_flag most true = omega (arith, most)
    by_flag most false = omega (arith, most)

below_suc : (P : ℕ → Type 0) (n : ℕ) → ((j : ℕ) → j < n → P j) → P n → (j : ℕ) → j < suc n → P j
below_suc P n below here j lt = by_test (ltb j n) refl
  where
    by_test : (b : Bool) → ltb j n ≡ b → P j
    by_test true is = below j (ltb-true j n is)
    by_test false is = let same : n ≡ j = grind (arith, nat_tests) in subst P same here

count_some : (s : ℕ → Bool) (n k : ℕ) → k < n → s k ≡ true → 1 ≤ count s n
unfolding count
count_some s zero k lt has = absurd (omega (arith, lt))
count_some s (suc n) k lt has = by_test (λ low. count_some s n k low has) (ltb k n) refl
  where
    by_test : (k < n → 1 ≤ count s n) → (b : Bool) → ltb k n ≡ b → 1 ≤ count s n + cond (s n) 1 0
    by_test among true is = omega (arith, among (ltb-true k n is))
    by_test among false is = let same : k ≡ n = grind (arith, nat_tests) in let here : s n ≡ true = ap s (sym same)
        ∙ has in rw here (omega arith)

count_same : (s t : ℕ → Bool) (n : ℕ) → ((j : ℕ) → j < n → s j ≡ t j) → count s n ≡ count t n
unfolding count
count_same s t zero same = refl
count_same s t (suc n) same = rw (count_same s t n (λ j lt. same j (omega (arith, lt))), same n (omega arith)) refl

-- a set that another is within is the same below a place, or has fewer there
grows : (s t : ℕ → Bool) (n : ℕ) → ((j : ℕ) → s j ≡ true → t j ≡ true) → ((j : ℕ) → j < n → s j ≡ t j)
    ⊎ (count s n + 1 ≤ count t n)
unfolding count
grows s t zero up = inl (λ j lt. absurd (omega (arith, lt)))
grows s t (suc n) up = by_cases (grows s t n up) (s n) refl (t n) refl
  where
    by_cases : ((j : ℕ) → j < n → s j ≡ t j) ⊎ (count s n + 1 ≤ count t n) → (a : Bool) → s n ≡ a → (b : Bool) → t n ≡ b
        → ((j : ℕ) → j < suc n → s j ≡ t j) ⊎ (count s n + cond (s n) 1 0 + 1 ≤ count t n + cond (t n) 1 0)
    by_cases (inl same) true one true two = inl (below_suc (λ j. s j ≡ t j) n same (one ∙ sym two))
    by_cases (inl same) true one false two = let no : true ≡ false = sym (up n one) ∙ two in absurd cc
    by_cases (inl same) false one true two = let e = count_same s t n same in inr (rw (one, two) (omega (arith, e)))
    by_cases (inl same) false one false two = inl (below_suc (λ j. s j ≡ t j) n same (one ∙ sym two))
    by_cases (inr less) true one true two = inr (rw (one, two) (omega (arith, less)))
    by_cases (inr less) true one false two = let no : true ≡ false = sym (up n one) ∙ two in absurd cc
    by_cases (inr less) false one true two = inr (rw (one, two) (omega (arith, less)))
    by_cases (inr less) false one false two = inr (rw (one, two) (omega (arith, less)))

-- ---- growing comes to an end

record Stands (next : List (List ℕ)) (class n : ℕ) : Type 0 where
  round : ℕ
  low : round ≤ n
  same : (j : ℕ) → j < length next → set_within next round class j ≡ set_within next (suc round) class j

more_each : (next : List (List ℕ)) (class n j : ℕ) → set_within next n class j ≡ true → set_within next (suc n) class
    j ≡ true
unfolding set_within grown
more_each next class n j has = or_left (set_within next n class j) _ has

first_has : (next : List (List ℕ)) (class : ℕ) → set_within next 0 class class ≡ true
unfolding set_within
first_has next class = grind (arith, nat_tests)

stands_or : (next : List (List ℕ)) (class : ℕ) → class < length next → (n : ℕ) → Stands next class n
    ⊎ (n + 1 ≤ count (set_within next n class) (length next))
stands_or next class lt zero = inr (count_some (set_within next 0 class) (length next) class lt (first_has next class))
stands_or next class lt (suc n) = by_cases (stands_or next class lt n)
  where
    grown_or : n + 1 ≤ count (set_within next n class) (length next)
        → ((j : ℕ) → j < length next → set_within next n class j ≡ set_within next (suc n) class j)
        ⊎ (count (set_within next n class) (length next) + 1 ≤ count (set_within next (suc n) class)
        (length next))
        → Stands next class (suc n) ⊎ (suc n + 1 ≤ count (set_within next (suc n) class) (length next))
    grown_or many (inl same) = inl (record { round = n; low = omega arith; same = same })
    grown_or many (inr more) = inr (omega (arith, many, more))

    by_cases : Stands next class n ⊎ (n + 1 ≤ count (set_within next n class) (length next))
        → Stands next class (suc n) ⊎ (suc n + 1 ≤ count (set_within next (suc n) class) (length next))
    by_cases (inl stands) = inl (record { round = stands.round; low = omega (arith, stands.low); same = stands.same })
    by_cases (inr many) = grown_or many (grows (set_within next n class) (set_within next (suc n) class) (length next)
        (more_each next class n))

stands : (next : List (List ℕ)) (class : ℕ) → class < length next → Stands next class (length next)
stands next class lt = by_cases (stands_or next class lt (length next))
  where
    by_cases : Stands next class (length next)
        ⊎ (length next + 1 ≤ count (set_within next (length next) class) (length next))
        → Stands next class (length next)
    by_cases (inl s) = s
    by_cases (inr many) = absurd (omega (arith, many, count_most (set_within next (length next) class) (length next)))

-- from there on it stays the same
stays : (next : List (List ℕ)) (class : ℕ) (n : ℕ) (s : Stands next class n) (m j : ℕ) → j < length next
    → set_within next (m + s.round) class j ≡ set_within next s.round class j
unfolding set_within
stays next class n s zero j lt = let e : 0 + s.round ≡ s.round = omega arith in rw e refl
stays next class n s (suc m) j lt =
    let e : suc m + s.round ≡ suc (m + s.round) = omega arith in
    rw e (grown_same next (set_within next (m + s.round) class) (set_within next s.round class) j lt
    (λ k low. stays next class n s m k low) ∙ sym (s.same j lt))

-- the set is that of the round where it stands
set_is : (next : List (List ℕ)) (class : ℕ) (s : Stands next class (length next)) (j : ℕ) → j < length next
    → set_of next class j ≡ set_within next s.round class j
unfolding set_of
set_is next class s j lt =
    let e : (length next - s.round) + s.round ≡ length next = omega (arith, s.low) in
    rw e at (stays next class (length next) s (length next - s.round) j lt)

-- ---- the law

within_other : (next : List (List ℕ)) (class : ℕ) (other : ℕ → Bool) → IsClosedSet next class other → class
    < length next → (n k : ℕ) → k < length next → set_within next n class k ≡ true → other k ≡ true
unfolding set_within grown
within_other next class other closed here zero k lt has = let same : class ≡ k = grind (arith, nat_tests)
    in ap other (sym same) ∙ closed.has
within_other next class other closed here (suc n) k lt has = by_cases (within_other next class other closed here n)
    (or_cases (set_within next n class k) (listed (set_within next n class) 0 next k) has)
  where
    by_cases : ((j : ℕ) → j < length next → set_within next n class j ≡ true → other j ≡ true)
        → (set_within next n class k ≡ true) ⊎ (listed (set_within next n class) 0 next k ≡ true) → other k ≡ true
    by_cases earlier (inl before) = earlier k lt before
    by_cases earlier (inr now) =
        let by = listed_in (set_within next n class) 0 next k now in
        let same : 0 + by.place ≡ by.place = omega arith in
        let had : set_within next n class by.place ≡ true = ap (set_within next n class) (sym same) ∙ by.has in
        closed.goes_on by.place k by.low lt (earlier by.place by.low had) by.names

set_goes_on : (next : List (List ℕ)) (class : ℕ) (s : Stands next class (length next)) (a b : ℕ) → a < length next → b
    < length next → set_of next class a ≡ true → contains (list_at next a) b ≡ true → set_of next class b ≡ true
unfolding set_within grown
set_goes_on next class s a b low lt has names =
    let now : set_within next s.round class (0 + a) ≡ true
    = (let same : 0 + a ≡ a = omega arith in rw same (sym (set_is next class s a low) ∙ has)) in
    let next_has : set_within next (suc s.round) class b ≡ true = or_right (set_within next s.round class b) _
    (listed_by (set_within next s.round class) 0 next b a low now names) in
    set_is next class s b lt ∙ s.same b lt ∙ next_has

pub set_is_least : (next : List (List ℕ)) (class : ℕ) → class < length next → IsLeastSet next class (set_of next class)
set_is_least next class lt =
    let s = stands next class lt in
    record {
      closed = record {
        has = set_is next class s class lt ∙ has_always s.round;
        goes_on = set_goes_on next class s;
      };
      least = λ other closed k low has. within_other next class other closed lt s.round k low
          (sym (set_is next class s k low) ∙ has);
    }
  where
    has_always : (n : ℕ) → set_within next n class class ≡ true
    has_always zero = first_has next class
    has_always (suc n) = more_each next class n class (has_always n)
