-- Two lists of links gone through side by side.
use Rattle.std.proofs.Common.{◌≡◌, ℕ, ◌+◌, ◌<◌, ◌≤◌, true, List, [], ◌∷◌, ◌++◌, sym, ap, ◌∙◌, arith, get_or, drop}
use Rattle.std.proofs.Common.{suc, zero}
use Rattle.std.proofs.lemmas.List.{take_more, take_all, take-append-drop}
use Rattle.std.specs.Prelude.{take, length}
use Rattle.std.proofs.lemmas.Bool.{eqb-true}
use Rattle.ad_dir_links.specs.Counted.{times}
use Rattle.ad_dir_links.specs.Changing.{IsBalanced, is_next}
use Rattle.ad_dir_links.proofs.Counting.{times_append}

-- the old links up to one place are the new ones up to another and those that are no more
abbrev pub IsSplit : List ℕ → List ℕ → ℕ → ℕ → List ℕ → Type 0
IsSplit old new i place less = (t : ℕ) → times t (take i old) ≡ times t (take place new) + times t less

times_take : (t : ℕ) (xs : List ℕ) (i : ℕ) → i < length xs → times t (take (i + 1) xs) ≡ times t (take i xs)
    + times t (get_or xs i 0 ∷ [])
times_take t xs i within = ap (times t) (take_more xs i 0 within) ∙ times_append t (take i xs) (get_or xs i 0 ∷ [])

pub split_none : (old new less : List ℕ) → less ≡ [] → IsSplit old new 0 0 less
unfolding times
split_none old new less none t = let e : times t less ≡ 0 = ap (times t) none in omega (arith, e)

pub split_next : (old new : List ℕ) (i place now x : ℕ) (less after : List ℕ) → i < length old → x ≡ get_or old i 0
    → place < length new → get_or new place 0 ≡ x
    → now ≡ place + 1 → after ≡ less → IsSplit old new i place less → IsSplit old new (i + 1) now after
split_next old new i place now x less after within is inside same next stays split t =
    let o = times_take t old i within in
    let n : times t (take now new) ≡ times t (take place new) + times t (get_or new place 0 ∷ [])
    = ap (λ (p : ℕ). times t (take p new)) next ∙ times_take t new place inside in
    let one : times t (get_or old i 0 ∷ []) ≡ times t (get_or new place 0 ∷ []) = ap (λ (y : ℕ). times t (y ∷ []))
    (sym is ∙ sym same) in
    let kept : times t after ≡ times t less = ap (times t) stays in
    let before = split t in
    omega (arith, o, n, one, kept, before)

pub split_less : (old new : List ℕ) (i place now x : ℕ) (less after : List ℕ) → i < length old → x ≡ get_or old i 0
    → now ≡ place → after ≡ less ++ x ∷ []
    → IsSplit old new i place less → IsSplit old new (i + 1) now after
split_less old new i place now x less after within is stays pushed split t =
    let o = times_take t old i within in
    let n : times t (take now new) ≡ times t (take place new) = ap (λ (p : ℕ). times t (take p new)) stays in
    let l : times t after ≡ times t less + times t (x ∷ []) = ap (times t) pushed ∙ times_append t less (x ∷ []) in
    let one : times t (get_or old i 0 ∷ []) ≡ times t (x ∷ []) = ap (λ (y : ℕ). times t (y ∷ [])) (sym is) in
    let before = split t in
    omega (arith, o, n, l, one, before)

pub split_whole : (old new : List ℕ) (place : ℕ) (less : List ℕ) (i : ℕ) → length old ≤ i → IsSplit old new i place
    less → IsBalanced old new (drop place new) less
split_whole old new place less i all split t =
    let whole : times t new ≡ times t (take place new) + times t (drop place new)
    = ap (times t) (sym (take-append-drop place new)) ∙ times_append t (take place new) (drop place new) in
    let before = split t in
    let o : times t (take i old) ≡ times t old = ap (times t) (take_all i old all) in
    omega (arith, whole, before, o)

-- ---- a place

pub next_at : (numbers : List ℕ) (place number : ℕ) → is_next numbers place number ≡ true → (place < length numbers)
    × (get_or numbers place 0 ≡ number)
next_at [] place number is = absurd cc
next_at (n ∷ ns) zero number is = (omega arith, eqb-true n number is)
next_at (n ∷ ns) (suc place) number is = let rest = next_at ns place number is
    in (let within = rest.0 in omega (arith, within), rest.1)
