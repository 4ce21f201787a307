-- How many different numbers a list has.
use Rattle.std.proofs.Common.{◌≡◌, ℕ, ◌+◌, Bool, true, false, List, [], ◌∷◌, length, refl, sym, subst, ap, ◌∙◌}
use Rattle.std.proofs.Common.{if◌then◌else◌, arith, inl, inr, eqb}
use Rattle.std.proofs.lemmas.Bool.{cases_Bool, eqb-true, eqb-false, eq-eqb, ne_eqb}

abbrev pub among : ℕ → List ℕ → Bool
among n [] = false
among n (m ∷ ms) = if eqb m n then true else among n ms

abbrev pub Once : List ℕ → Type 0
Once [] = Unit {0}
Once (n ∷ ns) = (among n ns ≡ false) × Once ns

-- without the first that is the number
abbrev without : ℕ → List ℕ → List ℕ
without n [] = []
without n (m ∷ ms) = if eqb m n then ms else m ∷ without n ms

-- each counts where it stands last
abbrev pub counts : List ℕ → ℕ
counts [] = 0
counts (n ∷ ns) = (if among n ns then 0 else 1) + counts ns

fewer : (n : ℕ) (ms : List ℕ) → among n ms ≡ true → length ms ≡ 1 + length (without n ms)
fewer n [] is = absurd cc
fewer n (m ∷ ms) is =
    elim (cases_Bool (eqb m n)) [
      | inl same ↦ rw same (omega arith)
      | inr other ↦ let rest = fewer n ms (rw other at is) in rw other (omega (arith, rest))
    ]

not_among : (n : ℕ) (ms : List ℕ) → Once ms → among n (without n ms) ≡ false
not_among n [] once = refl
not_among n (m ∷ ms) once =
    elim (cases_Bool (eqb m n)) [
      | inl same ↦ rw same (subst (λ (k : ℕ). among k ms ≡ false) (eqb-true m n same) once.0)
      | inr other ↦ rw (other, other) (not_among n ms once.1)
    ]

others_among : (n k : ℕ) (ms : List ℕ) → (n ≡ k → ⊥) → among k (without n ms) ≡ among k ms
others_among n k [] apart = refl
others_among n k (m ∷ ms) apart =
    elim (cases_Bool (eqb m n)) [
      | inl same ↦
          let differ : eqb m k ≡ false = ne_eqb m k (λ (e : m ≡ k). apart (sym (eqb-true m n same) ∙ e)) in
          rw (same, differ) refl
      | inr other ↦ rw other (ap (λ (t : Bool). if eqb m k then true else t) (others_among n k ms apart))
    ]

less_among : (n k : ℕ) (ms : List ℕ) → among k ms ≡ false → among k (without n ms) ≡ false
less_among n k [] none = refl
less_among n k (m ∷ ms) none =
    elim (cases_Bool (eqb m k)) [
      | inl same ↦ let bad : true ≡ false = rw same at none in absurd cc
      | inr differ ↦
          let rest : among k ms ≡ false = rw differ at none in
          elim (cases_Bool (eqb m n)) [
            | inl same ↦ rw same rest
            | inr other ↦ rw (other, differ) (less_among n k ms rest)
          ]
    ]

still_once : (n : ℕ) (ms : List ℕ) → Once ms → Once (without n ms)
still_once n [] once = tt
still_once n (m ∷ ms) once =
    elim (cases_Bool (eqb m n)) [
      | inl same ↦ rw same once.1
      | inr other ↦ rw other (less_among n m ms once.0, still_once n ms once.1)
    ]

-- a list in which each number stands once, and that has the same numbers
pub as_many : (ns ids : List ℕ) → Once ids → ((k : ℕ) → among k ids ≡ among k ns) → length ids ≡ counts ns
as_many [] [] once same = refl
as_many [] (i ∷ ids) once same = let one : among i (i ∷ ids) ≡ false = same i in let bad : true ≡ false
    = rw (eq-eqb i i refl) at one in absurd cc
as_many (n ∷ ns) ids once same =
    elim (cases_Bool (among n ns)) [
      | inl again ↦ let rest = as_many ns ids once (λ k. same k ∙ without_it k again) in rw again (omega (arith, rest))
      | inr last ↦
          let rest = as_many ns (without n ids) (still_once n ids once) (λ k. left k last) in
          let more = fewer n ids (same n ∙ here) in
          rw last (omega (arith, rest, more))
    ]
  where
    here : among n (n ∷ ns) ≡ true
    here = rw (eq-eqb n n refl) refl

    without_it : (k : ℕ) → among n ns ≡ true → among k (n ∷ ns) ≡ among k ns
    without_it k again =
        elim (cases_Bool (eqb n k)) [
          | inl same_ ↦ rw same_ (sym (subst (λ (j : ℕ). among j ns ≡ true) (eqb-true n k same_) again))
          | inr other ↦ rw other refl
        ]

    left : (k : ℕ) → among n ns ≡ false → among k (without n ids) ≡ among k ns
    left k last =
        elim (cases_Bool (eqb n k)) [
          | inl same_ ↦ subst (λ (j : ℕ). among j (without n ids) ≡ among j ns) (eqb-true n k same_)
              (not_among n ids once ∙ sym last)
          | inr other ↦
              let step : among k (n ∷ ns) ≡ among k ns = rw other refl in
              others_among n k ids (eqb-false n k other) ∙ same k ∙ step
        ]
