-- A list that is changed in place, from its start on.
use Rattle.std.proofs.Common.{◌≡◌, ◌≢◌, ℕ, ◌+◌, ◌<◌, ◌≤◌, ◌⊎◌, inl, inr, List, ◌++◌, length, take, drop, get_or, set}
use Rattle.std.proofs.Common.{refl, sym, ap, ◌∙◌, subst, arith}
use Rattle.std.proofs.Math.Seq.{take-append_seam}
use Rattle.std.proofs.lemmas.Bool.{cases_eq}
use Rattle.std.proofs.lemmas.List.{get_or-set_same, get_or-set_other, length-set}

-- So many places are changed, and the others not yet.
pub record InPlace (change : ℕ → ℕ → ℕ) (before after : List ℕ) (count : ℕ) : Type 0 where
  pub len : length after ≡ length before
  pub done : (place : ℕ) → place < count → get_or after place 0 ≡ change place (get_or before place 0)
  pub rest : (place : ℕ) → count ≤ place → get_or after place 0 ≡ get_or before place 0

pub in_place_none : (change : ℕ → ℕ → ℕ) (before : List ℕ) → InPlace change before before 0
in_place_none change before = record {
  len = refl;
  done = λ place lt. absurd (omega (arith, lt));
  rest = λ place le.
      refl;
}

pub in_place_more : (change : ℕ → ℕ → ℕ) (before after : List ℕ) (i : ℕ) → i < length after
    → InPlace change before after i → InPlace change before (set after i (change i (get_or after i 0))) (i + 1)
in_place_more change before after i lt so_far = record {
  len = length-set after i value ∙ so_far.len;
  done = λ place less. at place less so_far.done (cases_eq place i);
  rest = λ place le. other place (omega (arith, le)) ∙ so_far.rest place (omega (arith, le));
}
  where
    value : ℕ
    value = change i (get_or after i 0)

    here : get_or (set after i value) i 0 ≡ change i (get_or before i 0)
    here = get_or-set_same after i value 0 lt ∙ ap (change i) (so_far.rest i (omega arith))

    other : (place : ℕ) → place ≢ i → get_or (set after i value) place 0 ≡ get_or after place 0
    other place apart = get_or-set_other after i place value 0 apart

    at : (place : ℕ) → place < i + 1 → ((p : ℕ) → p < i → get_or after p 0 ≡ change p (get_or before p 0))
        → (place ≡ i) ⊎ (place ≡ i → ⊥) → get_or (set after i value) place 0 ≡ change place (get_or before place 0)
    at place less done (inl same) = subst (λ (p : ℕ). get_or (set after i value) p 0 ≡ change p (get_or before p 0))
        (sym same) here
    at place less done (inr apart) = other place apart ∙ done place (omega (arith, less, apart))

-- a vector whose elements were all written has what was written
pub written_back : (len : ℕ) (new old : List ℕ) → length new ≡ len → take len (new ++ drop (length new) old) ≡ new
written_back len new old e = ap (λ (n : ℕ). take n (new ++ drop (length new) old)) (sym e)
    ∙ take-append_seam new (drop (length new) old)
