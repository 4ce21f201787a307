-- What is told of rising numbers is what is told of all numbers of which anything is told.
use Rattle.std.proofs.Common.{◌≡◌, ℕ, suc, ◌+◌, ◌<◌, ◌≤◌, Bool, true, false, ◌&&◌, ◌||◌, List, [], ◌∷◌, ◌++◌}
use Rattle.std.proofs.Common.{length, inl, inr, refl, sym, subst, ap, ◌∙◌, arith}
use Rattle.std.specs.Prelude.{nat_eq, filter}
use Rattle.std.specs.List.{AllPairs, flat_map}
use Rattle.std.specs.List.Sorted.{IsStrictlyIncreasing}
use Rattle.std.proofs.lemmas.Bool.{cases_Bool, cases_lt, eqb-true, eq-eqb, ne_eqb}
use Rattle.std.proofs.lemmas.List.Kept.{AllPairs-from_increasing}
use Rattle.ad_entries.specs.Rising.{is_in}
use Rattle.ad_entries.proofs.ListLaws.{or_true}

-- ---- numbers in a list

and_false : (a : Bool) → (a && false) ≡ false
and_false true = refl
and_false false = refl

pub in_filter : (test : ℕ → Bool) (n : ℕ) (xs : List ℕ) → is_in n (filter test xs) ≡ (is_in n xs && test n)
in_filter test n [] = refl
in_filter test n (x ∷ xs) = elim (cases_Bool (nat_eq n x)) [
  | inl here ↦ elim (cases_Bool (test x)) [
    | inl has_it ↦ rw (has_it, here) (sym (ap test (eqb-true n x here) ∙ has_it))
    | inr lacks ↦
        let not_it : test n ≡ false = ap test (eqb-true n x here) ∙ lacks in
        rw (lacks, here) (in_filter test n xs ∙ ap (λ (b : Bool). is_in n xs && b) not_it ∙ and_false (is_in n xs)
        ∙ sym not_it)
  ]
  | inr other ↦ elim (cases_Bool (test x)) [
    | inl has_it ↦ rw (has_it, other) (in_filter test n xs)
    | inr lacks ↦ rw (lacks, other) (in_filter test n xs)
  ]
]

pub is_first : (x : ℕ) (xs : List ℕ) → is_in x (x ∷ xs) ≡ true
is_first x xs = rw (eq-eqb x x refl) refl

pub is_further : (n x : ℕ) (xs : List ℕ) → is_in n xs ≡ true → is_in n (x ∷ xs) ≡ true
is_further n x xs there = ap (λ (b : Bool). nat_eq n x || b) there ∙ or_true (nat_eq n x)

-- ---- rising numbers

-- from this one on, each above the one before it
abbrev pub RisesFrom : ℕ → List ℕ → Type 0
RisesFrom least [] = Unit {0}
RisesFrom least (x ∷ xs) = (least ≤ x) × RisesFrom (suc x) xs

from_pairs : (x : ℕ) (xs : List ℕ) → AllPairs (λ (a b : ℕ). a < b) (x ∷ xs) → RisesFrom (suc x) xs
from_pairs x [] all = tt
from_pairs x (y ∷ ys) all = (
  let less : x < y = all 0 1 0 (omega arith) (omega arith) in
      omega (arith, less),
  from_pairs y ys (λ i j d less within. all (suc i) (suc j) d (omega (arith, less)) (omega (arith, within))),
)

pub rises_from : (xs : List ℕ) → IsStrictlyIncreasing xs → RisesFrom 0 xs
rises_from [] rises = tt
rises_from (x ∷ xs) rises = (
  let le : 0 ≤ x = omega arith in le,
  from_pairs x xs (AllPairs-from_increasing (x ∷ xs)
      rises),
)

lower : (j k : ℕ) (xs : List ℕ) → RisesFrom k xs → j ≤ k → RisesFrom j xs
lower j k [] rises le = tt
lower j k (x ∷ xs) rises le = (let above : k ≤ x = rises.0 in omega (arith, le, above), rises.1)

not_from : (k n : ℕ) (xs : List ℕ) → RisesFrom k xs → n < k → is_in n xs ≡ false
not_from k n [] rises lt = refl
not_from k n (x ∷ xs) rises lt =
    let above : k ≤ x = rises.0 in
    rw (ne_eqb n x (λ (e : n ≡ x). absurd (omega (arith, e, lt, above))))
    (not_from (suc x) n xs rises.1 (omega (arith, lt, above)))

-- ---- what is told of each

-- of so many numbers as the list has elements, from this one on
unfoldable pub along : {X A : Type 0} → (ℕ → List A) → ℕ → List X → List A
along f k [] = []
along f k (x ∷ xs) = f k ++ along f (suc k) xs

nothing : {A : Type 0} → (f : ℕ → List A) (k : ℕ) (ns : List ℕ) → RisesFrom k ns → ((n : ℕ) → k ≤ n → f n ≡ [])
    → flat_map f ns ≡ []
nothing f k [] rises none = refl
nothing f k (n ∷ ns) rises none =
    ap (λ xs. xs ++ flat_map f ns) (none n rises.0)
    ∙ nothing f (suc n) ns rises.1 (λ m le. none m (let least : k ≤ n = rises.0 in omega (arith, le, least)))

nothing_along : {X A : Type 0} → (f : ℕ → List A) (k : ℕ) (xs : List X) → ((n : ℕ) → k ≤ n → f n ≡ []) → along f k xs
    ≡ []
unfolding along
nothing_along f k [] none = refl
nothing_along f k (x ∷ xs) none =
    ap (λ ys. ys ++ along f (suc k) xs) (none k (omega arith))
    ∙ nothing_along f (suc k) xs (λ n le. none n (omega (arith, le)))

-- Where of each number but these nothing is told, and of none after the list.
pub gathered : {X A : Type 0} → (f : ℕ → List A) (k : ℕ) (ns : List ℕ) (xs : List X) → RisesFrom k ns
    → ((n : ℕ) → k ≤ n → is_in n ns ≡ false → f n ≡ []) → ((n : ℕ) → k + length xs ≤ n → f n ≡ [])
    → flat_map f ns ≡ along f k xs
unfolding along
gathered f k [] xs rises none past = sym (nothing_along f k xs (λ n le. none n le refl))
gathered f k (n ∷ ns) [] rises none past = nothing f k (n ∷ ns) rises (λ m le. past m (omega (arith, le)))
gathered f k (n ∷ ns) (x ∷ xs) rises none past = elim (cases_lt k n) [
  | inl before ↦
      sym (ap (λ ys. ys ++ along f (suc k) xs)
      (none k (omega arith) (not_from n k (n ∷ ns) ((let e : n ≤ n = omega arith in e), rises.1) before))
      ∙ sym (gathered f (suc k) (n ∷ ns) xs ((omega (arith, before)), rises.1)
      (λ m le. none m (omega (arith, le))) (λ m le. past m (omega (arith, le)))))
  | inr not_before ↦
      let least : k ≤ n = rises.0 in
      let here : n ≡ k = omega (arith, not_before, least) in
      ap (λ (m : ℕ). f m ++ flat_map f ns) here
      ∙ ap (λ ys. f k ++ ys)
      (gathered f (suc k) ns xs (subst (λ (m : ℕ). RisesFrom (suc m) ns) here rises.1)
      (λ m le not_in. none m (omega (arith, le)) (rw (ne_eqb m n (λ (e : m ≡ n). absurd (omega (arith, e, here, le))))
      not_in)) (λ m le. past m (omega (arith, le))))
]
