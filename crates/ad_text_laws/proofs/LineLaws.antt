-- What is written line by line is read back line by line, and word by word.
use Rattle.std.proofs.Common.{Bool, eqb, nat_lt, ◌≡◌, ℕ, true, false, if◌then◌else◌, Option, Some, None}
use Rattle.std.proofs.Common.{List, [], ◌∷◌, ◌++◌, refl, ap, ◌∙◌, append_assoc, arith}
use Rattle.std.specs.Prelude.{◌&&◌, not, option_map, option_and_then}
use Rattle.std.specs.List.{AllByRecursion, flat_map}
use Rattle.std.proofs.lemmas.Bool.{and_parts}
use Rattle.std.proofs.lemmas.Bool.Decides.{nat_tests}
use Rattle.std.proofs.lemmas.List.Folds.{list_all-append}
use Rattle.ad_text_laws.specs.Lines.{is_line, is_word, with_first, lines_of, word_of, each_of}
use Rattle.ad_text_laws.specs.Lines.{facts_of}

pub both : (x y : Bool) → x ≡ true → y ≡ true → (x && y) ≡ true
both x y e f = ap (λ t. t && y) e ∙ f

-- ---- lines and words

pub two_lines : (a b : List ℕ) → is_line a ≡ true → is_line b ≡ true → is_line (a ++ b) ≡ true
two_lines a b p q = list_all-append (λ c. not (eqb c 10)) a b ∙ both (is_line a) (is_line b) p q

pub two_words : (a b : List ℕ) → is_word a ≡ true → is_word b ≡ true → is_word (a ++ b) ≡ true
two_words a b p q = list_all-append (λ c. nat_lt 32 c) a b ∙ both (is_word a) (is_word b) p q

word_byte : (b : ℕ) → nat_lt 32 b ≡ true → not (eqb b 10) ≡ true
word_byte b e = grind (arith, nat_tests)

pub word_is_line : (text : List ℕ) → is_word text ≡ true → is_line text ≡ true
word_is_line [] e = refl
word_is_line (b ∷ bytes) e =
    let p = and_parts (nat_lt 32 b) (is_word bytes) e in
    both (not (eqb b 10)) (is_line bytes) (word_byte b p.0) (word_is_line bytes p.1)

not_false : (t : Bool) → not t ≡ true → t ≡ false
not_false true e = absurd cc
not_false false e = refl

-- ---- the lines of a text

if_lines : (t : Bool) (x y : Option (List (List ℕ))) → t ≡ false → (if t then x else y) ≡ y
if_lines true x y e = absurd cc
if_lines false x y e = refl

abbrev more : List ℕ → Option (List (List ℕ)) → Option (List (List ℕ))
more line rest = option_map (λ (lines : List (List ℕ)). line ∷ lines) rest

one_byte : (b : ℕ) (line : List ℕ) (rest : Option (List (List ℕ)))
    → option_and_then (with_first b) (more line rest) ≡ more (b ∷ line) rest
one_byte b line None = refl
one_byte b line (Some lines) = refl

pub line_first : (line rest : List ℕ) → is_line line ≡ true → lines_of (line ++ 10 ∷ rest)
    ≡ option_map (λ (lines : List (List ℕ)). line ∷ lines) (lines_of rest)
unfolding lines_of
line_first [] rest e = refl
line_first (b ∷ bytes) rest e =
    let p = and_parts (not (eqb b 10)) (is_line bytes) e in
    if_lines (eqb b 10) (more [] (lines_of (bytes ++ 10 ∷ rest)))
    (option_and_then (with_first b) (lines_of (bytes ++ 10 ∷ rest))) (not_false (eqb b 10) p.0)
    ∙ ap (λ (o : Option (List (List ℕ))). option_and_then (with_first b) o) (line_first bytes rest p.1)
    ∙ one_byte b bytes (lines_of rest)

-- ---- the words of a line

if_words : (t : Bool) (x y : Option (List ℕ × List ℕ)) → t ≡ false → (if t then x else y) ≡ y
if_words true x y e = absurd cc
if_words false x y e = refl

not_blank : (b : ℕ) → nat_lt 32 b ≡ true → eqb b 32 ≡ false
not_blank b e = grind (arith, nat_tests)

pub word_first : (word rest : List ℕ) → is_word word ≡ true → word_of (word ++ 32 ∷ rest) ≡ Some (word, rest)
unfolding word_of
word_first [] rest e = refl
word_first (b ∷ bytes) rest e =
    let p = and_parts (nat_lt 32 b) (is_word bytes) e in
    if_words (eqb b 32) (Some ([], bytes ++ 32 ∷ rest))
    (option_map (λ (w : List ℕ × List ℕ). (b ∷ w.0, w.1)) (word_of (bytes ++ 32 ∷ rest))) (not_blank b p.0)
    ∙ ap (λ (o : Option (List ℕ × List ℕ)). option_map (λ (w : List ℕ × List ℕ). (b ∷ w.0, w.1)) o)
    (word_first bytes rest p.1)

-- ---- the facts of a text

-- a line that tells a fact, read back
pub record IsRead {A : Type 0} (fact : List ℕ → Option A) (line : A → List ℕ) (a : A) : Type 0 where
  pub one_line : is_line (line a) ≡ true
  pub back : fact (line a) ≡ Some a

first_fact : {A : Type 0} (fact : List ℕ → Option A) (text : List ℕ) (a : A) (lines : Option (List (List ℕ)))
    (facts : List A) → fact text ≡ Some a → option_and_then (each_of fact) lines ≡ Some facts
    → option_and_then (each_of fact) (option_map (λ (l : List (List ℕ)). text ∷ l) lines) ≡ Some (a ∷ facts)
unfolding each_of
first_fact fact text a None facts e f = absurd cc
first_fact {A} fact text a (Some lines) facts e f =
    ap (λ (o : Option A). option_and_then (λ (x : A). option_map (λ (xs : List A). x ∷ xs) (each_of fact lines)) o) e
    ∙ ap (λ (o : Option (List A)). option_map (λ (xs : List A). a ∷ xs) o) f

pub facts_back : {A : Type 0} (fact : List ℕ → Option A) (line : A → List ℕ) (facts : List A)
    → AllByRecursion (IsRead fact line) facts
    → facts_of fact (flat_map (λ a. line a ++ 10 ∷ []) facts) ≡ Some facts
unfolding each_of lines_of
facts_back fact line [] all = refl
facts_back {A} fact line (a ∷ facts) all =
    let rest = flat_map (λ (x : A). line x ++ 10 ∷ []) facts in
    let h = all.0 in
    ap (λ (t : List ℕ). facts_of fact t) (append_assoc (line a) (10 ∷ []) rest)
    ∙ ap (λ (o : Option (List (List ℕ))). option_and_then (each_of fact) o) (line_first (line a) rest h.one_line)
    ∙ first_fact fact (line a) a (lines_of rest) facts h.back (facts_back fact line facts all.1)
