-- Lines of words are read back, and what is put together of them is one.
use Rattle.std.proofs.Common.{Bool, eqb, nat_lt, ◌≡◌, ℕ, true, false, if◌then◌else◌, Some, List, [], ◌∷◌, ◌++◌}
use Rattle.std.proofs.Common.{refl, sym, ap, ◌∙◌, append_assoc, arith}
use Rattle.std.specs.List.{AllByRecursion, flat_map}
use Rattle.std.proofs.lemmas.Bool.{and_parts}
use Rattle.std.proofs.lemmas.Bool.Decides.{nat_tests}
use Rattle.std.proofs.lemmas.List.{append-nil}
use Rattle.ad_bytes.specs.Puts.{spaced, ended}
use Rattle.ad_text_laws.specs.Lines.{is_line, is_word, facts_of}
use Rattle.ad_text_laws.specs.Words.{joined, in_first, words_of, AreWords, words_text, line_words, IsOfWords}
use Rattle.ad_text_laws.proofs.LineLaws.{IsRead, two_lines, word_is_line, facts_back}
use Rattle.ad_text_laws.proofs.FactLaws.{all_read, spaced_line}

abbrev IsWord : List ℕ → Type 0
IsWord word = is_word word ≡ true

not_blank : (b : ℕ) → nat_lt 32 b ≡ true → eqb b 32 ≡ false
not_blank b e = grind (arith, nat_tests)

if_not : (t : Bool) (x y : List (List ℕ)) → t ≡ false → (if t then x else y) ≡ y
if_not true x y e = absurd cc
if_not false x y e = refl

-- a word alone, and a word before others
one_word : (word : List ℕ) → IsWord word → words_of word ≡ word ∷ []
unfolding words_of
one_word [] e = refl
one_word (b ∷ bytes) e =
    let p = and_parts (nat_lt 32 b) (is_word bytes) e in
    if_not (eqb b 32) ([] ∷ words_of bytes) (in_first b (words_of bytes)) (not_blank b p.0)
    ∙ ap (in_first b) (one_word bytes p.1)

word_before : (word rest : List ℕ) → IsWord word → words_of (word ++ 32 ∷ rest) ≡ word ∷ words_of rest
unfolding words_of
word_before [] rest e = refl
word_before (b ∷ bytes) rest e =
    let p = and_parts (nat_lt 32 b) (is_word bytes) e in
    if_not (eqb b 32) ([] ∷ words_of (bytes ++ 32 ∷ rest)) (in_first b (words_of (bytes ++ 32 ∷ rest)))
    (not_blank b p.0)
    ∙ ap (in_first b) (word_before bytes rest p.1)

joined_back : (word : List ℕ) (words : List (List ℕ)) → IsWord word → AllByRecursion IsWord words
    → words_of (joined (word ∷ words)) ≡ word ∷ words
joined_back word [] e all = one_word word e
joined_back word (next ∷ words) e all = ap words_of (append_assoc word (32 ∷ []) (joined (next ∷ words)))
    ∙ word_before word (joined (next ∷ words)) e ∙ ap (λ (ws : List (List ℕ)). word ∷ ws)
    (joined_back next words all.0 all.1)

joined_line : (word : List ℕ) (words : List (List ℕ)) → IsWord word → AllByRecursion IsWord words
    → is_line (joined (word ∷ words)) ≡ true
joined_line word [] e all = word_is_line word e
joined_line word (next ∷ words) e all = two_lines (spaced word) (joined (next ∷ words)) (spaced_line word e)
    (joined_line next words all.0 all.1)

words_read : (words : List (List ℕ)) → AreWords words → IsRead line_words joined words
words_read [] is = absurd is
words_read (word ∷ words) is = record {
  one_line = joined_line word words is.0 is.1;
  back = ap Some (joined_back word words is.0 is.1);
}

pub words_back : (lines : List (List (List ℕ))) → AllByRecursion AreWords lines
    → facts_of line_words (words_text lines) ≡ Some lines
words_back lines all = facts_back line_words joined lines (all_read line_words joined words_read lines all)

-- ---- texts put together

pub no_lines : IsOfWords []
no_lines = record { lines = []; are = tt; is = refl }

pub one_line : (words : List (List ℕ)) → AreWords words → IsOfWords (ended (joined words))
one_line words is = record { lines = words ∷ []; are = (is, tt); is = sym (append-nil (ended (joined words))) }

all_both : (a b : List (List (List ℕ))) → AllByRecursion AreWords a → AllByRecursion AreWords b
    → AllByRecursion AreWords (a ++ b)
all_both [] b p q = q
all_both (x ∷ a) b p q = (p.0, all_both a b p.1 q)

both_texts : (a b : List (List (List ℕ))) → words_text a ++ words_text b ≡ words_text (a ++ b)
both_texts [] b = refl
both_texts (x ∷ a) b = append_assoc (ended (joined x)) (words_text a) (words_text b)
    ∙ ap (λ (t : List ℕ). ended (joined x) ++ t) (both_texts a b)

pub two_texts : (a b : List ℕ) → IsOfWords a → IsOfWords b → IsOfWords (a ++ b)
two_texts a b p q = record {
  lines = p.lines ++ q.lines;
  are = all_both p.lines q.lines p.are q.are;
  is = ap (λ (t : List ℕ). t ++ b) p.is ∙ ap (λ (t : List ℕ). words_text p.lines ++ t) q.is
      ∙ both_texts p.lines q.lines;
}

pub each_text : {A : Type 0} (text : A → List ℕ) → ((a : A) → IsOfWords (text a)) → (as' : List A)
    → IsOfWords (flat_map text as')
each_text text is [] = no_lines
each_text text is (a ∷ as') = two_texts (text a) (flat_map text as') (is a) (each_text text is as')
