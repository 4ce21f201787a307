-- Lists by their places.
use Rattle.std.proofs.Common.{◌≡◌, ◌⊎◌, inl, inr, ℕ, zero, suc, ◌+◌, ◌<◌, ◌≤◌, Bool, true, false, Some, List, []}
use Rattle.std.proofs.Common.{◌∷◌, ◌++◌, length, get_or, set, take, refl, sym, ap, subst, ◌∙◌, arith}
use Rattle.std.specs.Prelude.{slice_get, ◌||◌, position}
use Rattle.std.specs.List.{AllByRecursion, list_any, list_all}
use Rattle.std.proofs.lemmas.Option.{slice_get-get_or}
use Rattle.std.proofs.lemmas.List.Quantifiers.{position-Some}
use Rattle.ad_load_records.proofs.Inverting.{and_true}

pub some_is : {A : Type 0} (a b : A) → Some a ≡ Some b → a ≡ b
some_is a b e = cc

pub none_at : {A : Type 0} (xs : List A) (i : ℕ) (x : A) → length xs ≤ i → slice_get xs i ≡ Some x → ⊥
none_at [] i x le e = absurd cc
none_at (y ∷ ys) zero x le e = omega arith
none_at (y ∷ ys) (suc i) x le e = none_at ys i x (omega arith) e

pub within : {A : Type 0} (xs : List A) (i : ℕ) (x : A) → slice_get xs i ≡ Some x → i < length xs
within [] i x e = absurd cc
within (y ∷ ys) zero x e = omega arith
within (y ∷ ys) (suc i) x e = let more : i < length ys = within ys i x e in omega arith

pub some_at : {A : Type 0} (xs : List A) (i : ℕ) → i < length xs → (x : A) × (slice_get xs i ≡ Some x)
some_at [] i lt = absurd (omega arith)
some_at (y ∷ ys) zero lt = (y, refl)
some_at (y ∷ ys) (suc i) lt = some_at ys i (omega arith)

-- one item more
pub at_front : {A : Type 0} (xs : List A) (y : A) (i : ℕ) → i < length xs → slice_get (xs ++ y ∷ []) i ≡ slice_get xs i
at_front [] y i lt = absurd (omega arith)
at_front (x ∷ xs) y zero lt = refl
at_front (x ∷ xs) y (suc i) lt = at_front xs y i (omega arith)

pub at_end : {A : Type 0} (xs : List A) (y : A) → slice_get (xs ++ y ∷ []) (length xs) ≡ Some y
at_end [] y = refl
at_end (x ∷ xs) y = at_end xs y

pub take_front : {A : Type 0} (xs : List A) (y : A) (i : ℕ) → i ≤ length xs → take i (xs ++ y ∷ []) ≡ take i xs
take_front xs y zero le = refl
take_front [] y (suc i) le = absurd (omega arith)
take_front (x ∷ xs) y (suc i) le = ap (λ (zs : List _). x ∷ zs) (take_front xs y i (omega arith))

pub take_whole : {A : Type 0} (xs : List A) → take (length xs) xs ≡ xs
take_whole [] = refl
take_whole (x ∷ xs) = ap (λ (zs : List _). x ∷ zs) (take_whole xs)

pub front_or_end : {A : Type 0} (xs : List A) (y : A) (i : ℕ) (x : A) → slice_get (xs ++ y ∷ []) i ≡ Some x
    → (slice_get xs i ≡ Some x) ⊎ ((i ≡ length xs) × (y ≡ x))
front_or_end [] y zero x e = inr (refl, some_is y x e)
front_or_end [] y (suc i) x e = absurd cc
front_or_end (z ∷ zs) y zero x e = inl e
front_or_end (z ∷ zs) y (suc i) x e = elim (front_or_end zs y i x e)
    [ inl there ↦ inl there | inr end ↦ inr (ap (λ (n : ℕ). suc n) end.0, end.1) ]

pub length_more : {A : Type 0} (xs : List A) (y : A) → length (xs ++ y ∷ []) ≡ length xs + 1
length_more [] y = refl
length_more (x ∷ xs) y = let more = length_more xs y in omega arith

-- the items before a place
pub at_take : {A : Type 0} (xs : List A) (i j : ℕ) → j < i → slice_get (take i xs) j ≡ slice_get xs j
at_take xs zero j lt = absurd (omega arith)
at_take [] (suc i) j lt = refl
at_take (x ∷ xs) (suc i) zero lt = refl
at_take (x ∷ xs) (suc i) (suc j) lt = at_take xs i j (omega arith)

pub length_take : {A : Type 0} (xs : List A) (i : ℕ) → i ≤ length xs → length (take i xs) ≡ i
length_take xs zero le = refl
length_take [] (suc i) le = absurd (omega arith)
length_take (x ∷ xs) (suc i) le = let more = length_take xs i (omega arith) in omega arith

or_false : (a b : Bool) → (a || b) ≡ false → (a ≡ false) × (b ≡ false)
or_false true b e = absurd cc
or_false false b e = (refl, e)

pub none_passes : {A : Type 0} (test : A → Bool) (xs : List A) (i : ℕ) (x : A) → list_any test xs ≡ false
    → slice_get xs i ≡ Some x → test x ≡ false
none_passes test [] i x none e = absurd cc
none_passes test (y ∷ ys) zero x none e = ap test (sym (some_is y x e)) ∙ (or_false (test y) (list_any test ys) none).0
none_passes test (y ∷ ys) (suc i) x none e = none_passes test ys i x (or_false (test y) (list_any test ys) none).1 e

pub each_passes : {A : Type 0} (test : A → Bool) (xs : List A) (i : ℕ) (x : A) → list_all test xs ≡ true
    → slice_get xs i ≡ Some x → test x ≡ true
each_passes test [] i x all e = absurd cc
each_passes test (y ∷ ys) zero x all e = ap test (sym (some_is y x e)) ∙ (and_true (test y) (list_all test ys) all).0
each_passes test (y ∷ ys) (suc i) x all e = each_passes test ys i x (and_true (test y) (list_all test ys) all).1 e

pub found_at : {A : Type 0} (test : A → Bool) (xs : List A) (i : ℕ) → position test xs ≡ Some i → (x : A)
    × (slice_get xs i ≡ Some x) × (test x ≡ true)
found_at test [] i e = absurd cc
found_at test (y ∷ ys) i e =
    let p = position-Some test (y ∷ ys) i y e in
    (get_or (y ∷ ys) i y, slice_get-get_or (y ∷ ys) i y p.0, p.1)

-- ---- all items

pub all_more : {A : Type 0} (P : A → Type 0) (xs : List A) (y : A) → AllByRecursion P xs → P y
    → AllByRecursion P (xs ++ y ∷ [])
all_more P [] y all one = (one, tt)
all_more P (x ∷ xs) y all one = (all.0, all_more P xs y all.1 one)

pub all_at : {A : Type 0} (P : A → Type 0) (xs : List A) (i : ℕ) (x : A) → AllByRecursion P xs → slice_get xs i
    ≡ Some x → P x
all_at P [] i x all e = absurd cc
all_at P (y ∷ ys) zero x all e = subst P (some_is y x e) all.0
all_at P (y ∷ ys) (suc i) x all e = all_at P ys i x all.1 e

pub all_also : {A : Type 0} (P Q : A → Type 0) → ((x : A) → P x → Q x) → (xs : List A) → AllByRecursion P xs
    → AllByRecursion Q xs
all_also P Q more [] all = tt
all_also P Q more (x ∷ xs) all = (more x all.0, all_also P Q more xs all.1)

pub all_here : {A : Type 0} (P : A → Type 0) (xs : List A) (i : ℕ) (x : A) → i < length xs → get_or xs i x ≡ x
    → AllByRecursion P xs → P x
all_here P [] i x lt is all = absurd (omega (arith, lt))
all_here P (y ∷ ys) zero x lt is all = subst P is all.0
all_here P (y ∷ ys) (suc i) x lt is all = all_here P ys i x (omega (arith, lt)) is all.1

pub all_set : {A : Type 0} (P : A → Type 0) (xs : List A) (i : ℕ) (y : A) → AllByRecursion P xs → P y
    → AllByRecursion P (set xs i y)
all_set P [] i y all one = tt
all_set P (x ∷ xs) zero y all one = (one, all.1)
all_set P (x ∷ xs) (suc i) y all one = (all.0, all_set P xs i y all.1 one)
