-- One more of those that were looked at.
use Rattle.std.proofs.Common.{◌≡◌, ◌∙◌, ℕ, zero, suc, ◌+◌, ◌<◌, List, [], ◌∷◌, ◌++◌, map, take, length, get_or, sym}
use Rattle.std.proofs.Common.{ap, subst, arith}
use Rattle.std.specs.Prelude.{Result, Ok, Err, IfOk}
use Rattle.std.specs.List.{AllByRecursion}
use Rattle.std.proofs.lemmas.List.{map-append, take_more}

pub all_push : {A : Type 0} (P : A → Type 0) (xs : List A) (x : A) → AllByRecursion P xs → P x
    → AllByRecursion P (xs ++ x ∷ [])
all_push P [] x all one = (one, tt)
all_push P (first ∷ xs) x all one = (all.0, all_push P xs x all.1 one)

pub map_push : {A B : Type 0} (P : B → Type 0) (f : A → B) (xs : List A) (x : A) → AllByRecursion P (map f xs)
    → P (f x) → AllByRecursion P (map f (xs ++ x ∷ []))
map_push P f xs x all one = subst (AllByRecursion P) (sym (map-append f xs (x ∷ [])))
    (all_push P (map f xs) (f x) all one)

-- one more of those of a slice
pub all_more : {A B : Type 0} (P : B → Type 0) (f : A → B) (xs : List A) (i : ℕ) (x : A) → i < length xs → x
    ≡ get_or xs i x → AllByRecursion P (map f (take i xs)) → P (f x) → AllByRecursion P (map f (take (i + 1) xs))
all_more P f xs i x less is all one =
    subst (λ (l : List _). AllByRecursion P (map f l))
    (ap (λ (y : _). take i xs ++ y ∷ []) is ∙ sym (take_more xs i x less)) (map_push P f (take i xs) x all one)

-- one of all of a slice
pub one_of : {A B : Type 0} (P : B → Type 0) (f : A → B) (xs : List A) (i : ℕ) (x : A) → i < length xs → x
    ≡ get_or xs i x → AllByRecursion P (map f xs) → P (f x)
one_of P f [] i x less is all = absurd (omega (arith, less))
one_of P f (y ∷ ys) zero x less is all = subst (λ (z : _). P (f z)) (sym is) all.0
one_of P f (y ∷ ys) (suc i) x less is all = one_of P f ys i x (omega (arith, less)) is all.1

pub if_ok_map : {A E : Type 0} (r : Result A E) (P Q : A → Type 0) → ((x : A) → P x → Q x) → IfOk r P → IfOk r Q
if_ok_map (Ok x) P Q f p = f x p
if_ok_map (Err e) P Q f p = tt
