-- What stands at places of lists.
use Rattle.std.proofs.Common.{◌≡◌, ◌∙◌, ◌<◌, ℕ, zero, suc, inl, inr, List, [], ◌∷◌, ◌++◌, length, map, get_or, refl}
use Rattle.std.proofs.Common.{ap, subst, arith, Some, true}
use Rattle.std.specs.Prelude.{All, slice_get, ◌==◌}
use Rattle.std.proofs.lemmas.Bool.{false≢true, or_cases}
use Rattle.std.proofs.lemmas.List.{get_or-map}
use Rattle.std.proofs.lemmas.Option.{none-some, slice_get_within, get_or_from_slice_get}
use Rattle.std.proofs.lemmas.Bool.Decides.{Decides-eqb}
use Rattle.ad_dir_model.specs.Protection.{has}

pub all_at : {A : Type 0} (P : A → Type 0) (xs : List A) (i : ℕ) (x : A) → All P xs → slice_get xs i ≡ Some x → P x
all_at P xs i x all there = subst P (get_or_from_slice_get xs i x x there) (all i x (slice_get_within xs i x there))

pub mapped_at : {A B : Type 0} (f : A → B) (xs : List A) (i : ℕ) (x : A) (d : B) → slice_get xs i ≡ Some x
    → get_or (map f xs) i d ≡ f x
mapped_at f xs i x d there =
    get_or-map f xs i x d (slice_get_within xs i x there) ∙ ap f (get_or_from_slice_get xs i x x there)

pub there_at : {A : Type 0} (xs : List A) (i : ℕ) → i < length xs → (x : A) × (slice_get xs i ≡ Some x)
there_at [] i lt = absurd (omega (arith, lt))
there_at (x ∷ xs) zero lt = (x, refl)
there_at (x ∷ xs) (suc i) lt = there_at xs i (omega (arith, lt))

-- more stand after
pub left_at : {A : Type 0} (xs ys : List A) (i : ℕ) (x : A) → slice_get xs i ≡ Some x → slice_get (xs ++ ys) i ≡ Some x
left_at [] ys i x there = absurd (none-some x there)
left_at (y ∷ xs) ys zero x there = there
left_at (y ∷ xs) ys (suc i) x there = left_at xs ys i x there

pub more_at : {A : Type 0} (old new more : List A) (i : ℕ) (x : A) → new ≡ old ++ more → slice_get old i ≡ Some x
    → slice_get new i ≡ Some x
more_at {A} old new more i x are there = ap (λ (l : List A). slice_get l i) are ∙ left_at old more i x there

pub last_at : {A : Type 0} (xs : List A) (x : A) → slice_get (xs ++ (x ∷ [])) (length xs) ≡ Some x
last_at [] x = refl
last_at (y ∷ ys) x = last_at ys x

pub last_in : {A : Type 0} (old new : List A) (x : A) (i : ℕ) → new ≡ old ++ (x ∷ []) → i ≡ length old
    → slice_get new i ≡ Some x
last_in {A} old new x i are same =
    ap (λ (l : List A). slice_get l i) are ∙ ap (slice_get (old ++ (x ∷ []))) same ∙ last_at old x

-- what holds of all holds of a number that is among them
pub all_has : (P : ℕ → Type 0) (ns : List ℕ) (n : ℕ) → All P ns → has ns n ≡ true → P n
all_has P [] n all is = absurd (false≢true is)
all_has P (m ∷ ns) n all is = elim (or_cases (m == n) (has ns n) is) [
  | inl here ↦ subst P ((Decides-eqb m n).0 here) (all 0 m (omega arith))
  | inr behind ↦ all_has P ns n (λ i d lt. all (suc i) d (omega (arith, lt))) behind
]
