-- Physical lines that all continue a line: what they add to it doesn't hang on what stands after them.
use Rattle.std.proofs.Common.{◌≡◌, ℕ, zero, suc, ◌+◌, ◌-◌, ◌<◌, ◌==◌, ◌&&◌, Bool, true, false, cond, List, [], ◌∷◌}
use Rattle.std.proofs.Common.{◌++◌, length, get_or, take, drop, refl, sym, ap, ◌∙◌, arith, append_assoc}
use Rattle.std.proofs.lemmas.Bool.{and_right}
use Rattle.std.proofs.lemmas.List.{take_rest, take-append-drop}
use Rattle.ad_ldif.specs.Lines.{physical, continuation, logical, begins_with, behind_first, lengthened}
use Rattle.ad_ldif.specs.Folds.{Adds, Folds}
use Rattle.ad_ldif.proofs.CutLemmas.{physical_begins, physical_nil}
use Rattle.ad_ldif.proofs.LineLemmas.{Cuts, line_begins, continuation_more, logical_continued}

pub front_and_rest : (text front : List ℕ) → take (length front) text ≡ front → text ≡ front
    ++ take (length text - length front) (drop (length front) text)
front_and_rest text front e =
    sym (take-append-drop (length front) text) ∙ ap (λ (f : List ℕ). f ++ drop (length front) text) e
    ∙ ap (λ (r : List ℕ). front ++ r) (sym (take_rest text (length front)))

-- ---- a text that ends with the end of a line

abbrev Some : List (List ℕ) → Type 0
Some lines = 0 < length lines

some_cond : (b : Bool) (xs ys : List (List ℕ)) → Some xs → Some ys → Some (cond b xs ys)
some_cond true xs ys x y = x
some_cond false xs ys x y = y

some_lengthened : (b : ℕ) (lines : List (List ℕ)) → Some (lengthened b lines)
some_lengthened b [] = omega arith
some_lengthened b (line ∷ lines) = omega arith

-- a text that isn't empty has a line
some_line : (b : ℕ) (text : List ℕ) → Some (physical (b ∷ text))
unfolding physical
some_line b [] = rw (and_right (b == 13) false refl)
    (some_cond (b == 10) ([] ∷ physical []) (lengthened b (physical [])) (omega arith)
    (some_lengthened b (physical [])))
some_line b (c ∷ text) =
    some_cond (b == 13 && begins_with 10 (c ∷ text)) (physical (c ∷ text))
    (cond (b == 10) ([] ∷ physical (c ∷ text)) (lengthened b (physical (c ∷ text)))) (some_line c text)
    (some_cond (b == 10) ([] ∷ physical (c ∷ text)) (lengthened b (physical (c ∷ text))) (omega arith)
    (some_lengthened b (physical (c ∷ text))))

lengthened_more : (b : ℕ) (lines others : List (List ℕ)) → Some lines → lengthened b (lines ++ others)
    ≡ lengthened b lines ++ others
lengthened_more b [] others some = absurd (omega (arith, some))
lengthened_more b (line ∷ lines) others some = refl

append_cond : (b : Bool) (xs ys zs us others : List (List ℕ)) → xs ≡ zs ++ others → ys ≡ us ++ others → cond b xs ys
    ≡ cond b zs us ++ others
append_cond true xs ys zs us others x y = x
append_cond false xs ys zs us others x y = y

-- n is the place of its last byte
pub whole : (text after : List ℕ) (n : ℕ) → n + 1 ≡ length text → get_or text n 0 ≡ 10 → physical (text ++ after)
    ≡ physical text ++ physical after
unfolding physical
whole [] after n len e = absurd (omega (arith, len))
whole (b ∷ []) after zero len e = rw e refl
whole (b ∷ []) after (suc n) len e = absurd (omega (arith, len))
whole (b ∷ c ∷ text) after zero len e = absurd (omega (arith, len))
whole (b ∷ c ∷ text) after (suc n) len e =
    let behind : physical (c ∷ text ++ after) ≡ physical (c ∷ text) ++ physical after = whole (c ∷ text) after n
    (omega (arith, len)) e in
    let front : List (List ℕ) = physical (c ∷ text) in
    append_cond (b == 13 && c == 10) (physical (c ∷ text ++ after))
    (cond (b == 10) ([] ∷ physical (c ∷ text ++ after)) (lengthened b (physical (c ∷ text ++ after)))) front
    (cond (b == 10) ([] ∷ front) (lengthened b front)) (physical after) behind
    (append_cond (b == 10) ([] ∷ physical (c ∷ text ++ after)) (lengthened b (physical (c ∷ text ++ after)))
    ([] ∷ front) (lengthened b front) (physical after)
    (ap (λ (lines : List (List ℕ)). [] ∷ lines) behind)
    (ap (lengthened b) behind ∙ lengthened_more b front (physical after) (some_line c text)))

-- ---- lines that were passed, and those that are left of them

pub none_passed : (all : List (List ℕ)) (n : ℕ) → n ≡ 0 → Adds all [] n all
none_passed all n none = λ others. (refl, λ k. ap (λ (m : ℕ). logical true m (all ++ others)) (omega (arith, none)))

pub one_passed : (all : List (List ℕ)) (tail : List ℕ) (count : ℕ) (rest line after : List ℕ) → begins_with 32 rest
    ≡ true → Cuts rest line after → Adds all tail count (physical rest)
    → Adds all (tail ++ behind_first line) (count + 1) (physical after)
one_passed all tail count rest line after e cuts adds = λ others.
    let begins : begins_with 32 line ≡ true = line_begins 32 rest line after true (physical_begins 32 rest refl refl)
    cuts e in
    let texts : continuation (all ++ others) ≡ (tail ++ behind_first line) ++ continuation (physical after ++ others) =
    (adds others).0 ∙ ap (λ (lines : List (List ℕ)). tail ++ continuation (lines ++ others)) cuts
    ∙ ap (λ (more : List ℕ). tail ++ more) (continuation_more line (physical after ++ others) begins)
    ∙ sym (append_assoc tail (behind_first line) (continuation (physical after ++ others))) in (
      texts,
      λ n.
          let next : n + count + 1 ≡ n + (count + 1) = omega arith in
          (adds others).1 n ∙ ap (λ (lines : List (List ℕ)). logical true (n + count) (lines ++ others)) cuts
          ∙ logical_continued (n + count) line (physical after ++ others) begins
          ∙ ap (λ (m : ℕ). logical true m (physical after ++ others)) next,
    )

pub all_passed : (raw tail : List ℕ) (count : ℕ) (rest : List ℕ) → rest ≡ []
    → ((after : List ℕ) → physical (raw ++ after) ≡ physical raw ++ physical after)
    → Adds (physical raw) tail count (physical rest) → Folds raw tail count
all_passed raw tail count rest none ends adds = λ after.
    let left : physical rest ++ physical after ≡ physical after = ap (λ (r : List ℕ). physical r ++ physical after)
    none ∙ ap (λ (lines : List (List ℕ)). lines ++ physical after) physical_nil in (
      ap continuation (ends after) ∙ (adds (physical after)).0
          ∙ ap (λ (lines : List (List ℕ)). tail ++ continuation lines) left,
      λ n. ap (logical true n) (ends after) ∙ (adds (physical after)).1 n ∙ ap (logical true (n + count)) left,
    )
