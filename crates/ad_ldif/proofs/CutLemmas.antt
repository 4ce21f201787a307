-- Where the first physical line ends.
use Rattle.std.proofs.Common.{◌≡◌, Bool, ℕ, zero, suc, ◌-◌, ◌+◌, ◌<◌, true, false, ◌&&◌, eqb, List, [], ◌∷◌, length}
use Rattle.std.proofs.Common.{get_or, take, drop, refl, sym, ap, ◌∙◌, arith, add-one, inl, inr}
use Rattle.std.proofs.lemmas.Bool.{ne_eqb, eqb-true, eq-eqb, and_right, and_left, and_parts, cases_Bool}
use Rattle.std.proofs.lemmas.List.{take_rest, drop_all}
use Rattle.ad_ldif.specs.Lines.{physical, begins_with, lengthened}
use Rattle.ad_ldif.specs.Cut.{without_cr}

-- ---- the CR at the end of a line

-- n is the place of its last byte
pub cr_dropped : (line : List ℕ) (n : ℕ) → n + 1 ≡ length line → get_or line n 0 ≡ 13 → without_cr line ≡ take n line
cr_dropped [] n len e = absurd (omega (arith, len))
cr_dropped (b ∷ []) zero len e = rw e refl
cr_dropped (b ∷ []) (suc n) len e = absurd (omega (arith, len))
cr_dropped (b ∷ c ∷ bytes) zero len e = absurd (omega (arith, len))
cr_dropped (b ∷ c ∷ bytes) (suc n) len e = ap (λ (xs : List ℕ). b ∷ xs)
    (cr_dropped (c ∷ bytes) n (omega (arith, len)) e)

pub no_cr : (line : List ℕ) (n : ℕ) → n + 1 ≡ length line → (get_or line n 0 ≡ 13 → ⊥) → without_cr line ≡ line
no_cr [] n len other = refl
no_cr (b ∷ []) zero len other = let o : eqb b 13 ≡ false = ne_eqb b 13 other in rw o refl
no_cr (b ∷ []) (suc n) len other = absurd (omega (arith, len))
no_cr (b ∷ c ∷ bytes) zero len other = absurd (omega (arith, len))
no_cr (b ∷ c ∷ bytes) (suc n) len other = ap (λ (xs : List ℕ). b ∷ xs) (no_cr (c ∷ bytes) n (omega (arith, len)) other)

-- ---- the first LF

-- a byte before a line that isn't empty, or one that isn't the CR before a LF
one_more : (b c : ℕ) (rest : List ℕ) (lines : List (List ℕ)) → (b ≡ 10 → ⊥) → (eqb b 13 && eqb c 10) ≡ false
    → physical (c ∷ rest) ≡ lines → physical (b ∷ c ∷ rest) ≡ lengthened b lines
unfolding physical
one_more b c rest lines other cr e = let lf : eqb b 10 ≡ false = ne_eqb b 10 other in rw (cr, lf) (ap (lengthened b) e)

-- a CR before a LF
cr_lf : (b c : ℕ) (rest : List ℕ) → eqb b 13 ≡ true → eqb c 10 ≡ true → physical (b ∷ c ∷ rest) ≡ physical (c ∷ rest)
unfolding physical
cr_lf b c rest cr lf = rw (cr, lf) refl

-- the first LF stands at the place n
pub cut_at : (text : List ℕ) (n : ℕ) → ((k : ℕ) → k < n → get_or text k 0 ≡ 10 → ⊥) → n < length text
    → get_or text n 0 ≡ 10 → physical text ≡ without_cr (take n text) ∷ physical (drop (suc n) text)
cut_at [] n none lt e = absurd (omega (arith, lt))
cut_at (b ∷ rest) zero none lt e = unfold physical in rw e refl
cut_at (b ∷ []) (suc n) none lt e = absurd (omega (arith, lt))
cut_at (b ∷ c ∷ rest) (suc zero) none lt e =
    let lf : eqb c 10 ≡ true = eq-eqb c 10 e in
    let ih : physical (c ∷ rest) ≡ [] ∷ physical rest = cut_at (c ∷ rest) zero (λ k h. absurd (omega (arith, h)))
    (omega arith) e in
    elim (cases_Bool (eqb b 13)) [
      | inl cr ↦ rw cr (cr_lf b c rest cr lf ∙ ih)
      | inr other ↦ rw other (one_more b c rest ([] ∷ physical rest) (none 0 (omega arith)) (and_left _ _ other) ih)
    ]
cut_at (b ∷ c ∷ rest) (suc (suc n)) none lt e =
    let ih : physical (c ∷ rest) ≡ without_cr (c ∷ take n rest) ∷ physical (drop (suc n) rest)
    = cut_at (c ∷ rest) (suc n) (λ k h. none (suc k) (omega (arith, h))) (omega (arith, lt)) e in
    one_more b c rest _ (none 0 (omega arith)) (and_right _ _ (ne_eqb c 10 (none 1 (omega arith)))) ih

-- there is no LF
pub cut_none : (text : List ℕ) → 0 < length text → ((k : ℕ) → k < length text → get_or text k 0 ≡ 10 → ⊥)
    → physical text ≡ text ∷ []
cut_none [] lt none = absurd (omega (arith, lt))
cut_none (b ∷ []) lt none = unfold physical in let lf : eqb b 10 ≡ false = ne_eqb b 10 (none 0 (omega arith))
    in let cr : (eqb b 13 && false) ≡ false = and_right _ _ refl in rw (cr, lf) refl
cut_none (b ∷ c ∷ rest) lt none =
    let ih : physical (c ∷ rest) ≡ (c ∷ rest) ∷ [] = cut_none (c ∷ rest) (omega arith)
    (λ k h. none (suc k) (omega (arith, h))) in
    one_more b c rest _ (none 0 (omega arith)) (and_right _ _ (ne_eqb c 10 (none 1 (omega arith)))) ih

-- ---- the first byte of the first line

-- the first of some lines begins with this byte
abbrev pub first_begins_with : ℕ → List (List ℕ) → Bool
first_begins_with c [] = false
first_begins_with c (line ∷ lines) = begins_with c line

lengthened_begins : (c b : ℕ) (lines : List (List ℕ)) → first_begins_with c (lengthened b lines) ≡ eqb b c
lengthened_begins c b [] = refl
lengthened_begins c b (line ∷ lines) = refl

-- a line that ends at once begins with no byte
lf_begins : (c b : ℕ) (rest : List ℕ) → eqb 10 c ≡ false → eqb b 10 ≡ true → first_begins_with c (physical (b ∷ rest))
    ≡ false
unfolding physical
lf_begins c b rest other lf = let is : b ≡ 10 = eqb-true b 10 lf in rw is refl

-- a CR before a LF ends the line too
cr_begins : (c b : ℕ) (rest : List ℕ) → eqb 10 c ≡ false → eqb b 13 ≡ true → begins_with 10 rest ≡ true
    → first_begins_with c (physical (b ∷ rest)) ≡ false
cr_begins c b [] other cr lf = absurd cc
cr_begins c b (d ∷ rest) other cr lf = rw (cr_lf b d rest cr lf) (lf_begins c d rest other lf)

-- another byte begins the line
byte_begins : (c b : ℕ) (rest : List ℕ) → (eqb b 13 && begins_with 10 rest) ≡ false → eqb b 10 ≡ false
    → first_begins_with c (physical (b ∷ rest)) ≡ eqb b c
unfolding physical
byte_begins c b rest cr lf = rw (cr, lf) (lengthened_begins c b (physical rest))

-- The first line begins with this byte, which is neither CR nor LF, where the text does.
pub physical_begins : (c : ℕ) (text : List ℕ) → eqb 13 c ≡ false → eqb 10 c ≡ false
    → first_begins_with c (physical text) ≡ begins_with c text
physical_begins c [] cr lf = unfold physical in refl
physical_begins c (b ∷ rest) cr lf =
    elim (cases_Bool (eqb b 13 && begins_with 10 rest)) [
      | inl both ↦
          let is : b ≡ 13 = eqb-true b 13 (and_parts _ _ both).0 in
          let differs : eqb b c ≡ false = rw is cr in
          cr_begins c b rest lf (and_parts _ _ both).0 (and_parts _ _ both).1 ∙ sym differs
      | inr not_end ↦ elim (cases_Bool (eqb b 10)) [
        | inl ends ↦
            let is : b ≡ 10 = eqb-true b 10 ends in
            let differs : eqb b c ≡ false = rw is lf in
            lf_begins c b rest lf ends ∙ sym differs
        | inr other ↦ byte_begins c b rest not_end other
      ]
    ]

-- ---- the cut as it stands in the code

pub physical_nil : physical [] ≡ []
unfolding physical
physical_nil = refl

pub cut_all : (text : List ℕ) → 0 < length text → ((k : ℕ) → k < length text → get_or text k 0 ≡ 10 → ⊥)
    → physical text ≡ text ∷ physical (take (length text - length text) (drop (length text) text))
cut_all text lt none =
    let rest : take (length text - length text) (drop (length text) text) ≡ [] = take_rest text (length text)
    ∙ drop_all (length text) text (omega arith) in
    cut_none text lt none ∙ ap (λ (lines : List (List ℕ)). text ∷ lines) (sym (ap physical rest ∙ physical_nil))

pub cut_front : (text line : List ℕ) (n : ℕ) → line ≡ without_cr (take n text)
    → ((k : ℕ) → k < n → get_or text k 0 ≡ 10 → ⊥) → n < length text → get_or text n 0 ≡ 10
    → physical text ≡ line ∷ physical (take (length text - (n + 1)) (drop (n + 1) text))
cut_front text line n is none lt e = rw (is, take_rest text (n + 1), add-one) (cut_at text n none lt e)
