-- Lists that are read one item after the other: those so far, and what the rest gives.
use Rattle.std.proofs.Common.{◌≡◌, Result, Ok, Err, List, [], ◌∷◌, ◌++◌, refl, sym, ap, ◌∙◌, append_assoc}
use Rattle.std.proofs.lemmas.List.{append-nil}
use Rattle.ad_bytes.specs.Reading.{◌>>=◌}
use Rattle.ad_load_records.specs.Prefixed.{prefixed}

-- one item, and then the others
abbrev pub first_then : {A E : Type 0} → Result A E → Result (List A) E → Result (List A) E
first_then first others = first >>= λ x. others >>= λ xs. Ok (x ∷ xs)

pub prefixed_nothing : {A E : Type 0} (r : Result (List A) E) → r ≡ prefixed [] r
prefixed_nothing (Ok x) = refl
prefixed_nothing (Err e) = refl

pub prefixed_one : {A E : Type 0} (xs : List A) (first : Result A E) (x : A) (others : Result (List A) E)
    → first ≡ Ok x → prefixed xs (first_then first others) ≡ prefixed (xs ++ x ∷ []) others
prefixed_one {A} {E} xs first x others e = ap (λ (r : Result A E). prefixed xs (first_then r others)) e ∙
    by others where
      by : (r : Result (List A) E) → prefixed xs (r >>= λ ys. Ok (x ∷ ys)) ≡ prefixed (xs ++ x ∷ []) r
      by (Ok ys) = ap (λ (t : List A). Ok t) (sym (append_assoc xs (x ∷ []) ys))
      by (Err f) = refl

pub prefixed_fault : {A E : Type 0} (xs : List A) (first : Result A E) (f : E) (others : Result (List A) E)
    → first ≡ Err f → prefixed xs (first_then first others) ≡ Err f
prefixed_fault {A} {E} xs first f others e = ap (λ (r : Result A E). prefixed xs (first_then r others)) e

pub prefixed_end : {A E : Type 0} (xs : List A) (others : Result (List A) E) → others ≡ Ok [] → prefixed xs others
    ≡ Ok xs
prefixed_end {A} {E} xs others e = ap (λ (r : Result (List A) E). prefixed xs r) e ∙ ap (λ (t : List A). Ok t)
    (append-nil xs)

pub prefixed_stop : {A E : Type 0} (xs : List A) (others : Result (List A) E) (f : E) → others ≡ Err f
    → prefixed xs others ≡ Err f
prefixed_stop {A} {E} xs others f e = ap (λ (r : Result (List A) E). prefixed xs r) e
