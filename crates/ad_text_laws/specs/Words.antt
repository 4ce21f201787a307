-- Lines of words, and how they are read back.
use Rattle.std.specs.Prelude.{◌≡◌, ℕ, ◌==◌, if◌then◌else◌, Option, Some, List, [], ◌∷◌}
use Rattle.std.specs.List.{AllByRecursion, flat_map}
use Rattle.ad_bytes.specs.Puts.{spaced, ended}
use Rattle.std.specs.Prelude.{◌++◌, true}
use Rattle.ad_text_laws.specs.Lines.{is_word}

-- words with one blank between them
abbrev pub joined : List (List ℕ) → List ℕ
joined [] = []
joined (word ∷ []) = word
joined (word ∷ next ∷ words) = spaced word ++ joined (next ∷ words)

-- one more byte at the start of the first word
abbrev pub in_first : ℕ → List (List ℕ) → List (List ℕ)
in_first b [] = []
in_first b (word ∷ words) = (b ∷ word) ∷ words

-- what stands between the blanks (32) of a line
unfoldable pub words_of : List ℕ → List (List ℕ)
words_of [] = [] ∷ []
words_of (b ∷ bytes) = if b == 32 then [] ∷ words_of bytes else in_first b (words_of bytes)

-- one or more words
abbrev pub AreWords : List (List ℕ) → Type 0
AreWords [] = ⊥
AreWords (word ∷ words) = (is_word word ≡ true) × AllByRecursion (λ (w : List ℕ). is_word w ≡ true) words

-- the text of lines of words
abbrev pub words_text : List (List (List ℕ)) → List ℕ
words_text lines = flat_map (λ (words : List (List ℕ)). ended (joined words)) lines

abbrev pub line_words : List ℕ → Option (List (List ℕ))
line_words line = Some (words_of line)

-- a text of lines of words
pub record IsOfWords (text : List ℕ) : Type 0 where
  pub lines : List (List (List ℕ))
  pub are : AllByRecursion AreWords lines
  pub is : text ≡ words_text lines
