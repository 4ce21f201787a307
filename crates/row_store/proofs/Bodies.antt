-- Bodies, one after the other.
use Rattle.std.proofs.Common.{◌≡◌, ◌∙◌, ◌<◌, ◌+◌, ℕ, List, [], ◌∷◌, ◌++◌, length, take, drop, get_or, Result}
use Rattle.std.proofs.Common.{Err, refl, sym, ap, take-append-drop}
use Rattle.std.proofs.lemmas.List.{take_more, drop_more}
use Rattle.std.specs.Result.{IsErrOf}
use Rattle.row_store.specs.Faults.{of_rows}
use Rattle.row_store.specs.declared.fault.StoreFault.{StoreFault}
use Rattle.row_store.specs.declared.fault.StoreFault.TheVariants.{Broken}
use Rattle.row_store.specs.declared.reading.RowFault.{RowFault}
use Rattle.row_store.specs.declared.reading.RowFault.TheVariants.{Bad, Memory}

pub bodies_more : (bodies : List (List ℕ)) (i : ℕ) (body : List ℕ) → i < length bodies → body ≡ get_or bodies i body
    → take i bodies ++ body ∷ [] ≡ take (i + 1) bodies
bodies_more bodies i body less is = ap (λ (b : List ℕ). take i bodies ++ b ∷ []) is
    ∙ sym (take_more bodies i body less)

pub bodies_split : (bodies : List (List ℕ)) (i : ℕ) (body : List ℕ) → i < length bodies → body ≡ get_or bodies i body
    → bodies ≡ take i bodies ++ body ∷ drop (i + 1) bodies
bodies_split bodies i body less is =
    sym (take-append-drop i bodies) ∙ ap (λ (l : List (List ℕ)). take i bodies ++ l)
    (drop_more bodies i body less ∙ ap (λ (b : List ℕ). b ∷ drop (i + 1) bodies) (sym is))

pub bad_row : {T : Type 0} (fault : RowFault) (result : Result T StoreFault) (e : StoreFault) → result ≡ Err e → e
    ≡ of_rows fault → IsErrOf result Broken → fault ≡ Bad
bad_row fault result e is made broken = by fault (sym made ∙ same e (sym is))
  where
    same : (f : StoreFault) → Err f ≡ result → f ≡ Broken
    same f eq = cc (eq, broken)

    by : (f : RowFault) → of_rows f ≡ Broken → f ≡ Bad
    by Bad eq = refl
    by Memory eq = cc eq
