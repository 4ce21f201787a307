-- How a text in lines is read back: its lines, and the words of a line.
use Rattle.std.specs.Prelude.{ℕ, ◌^◌, nat_lt, Bool, not, ◌==◌, ◌&&◌, if◌then◌else◌, Option, Some, None, option_map}
use Rattle.std.specs.Prelude.{option_and_then, List, [], ◌∷◌, decimal}
use Rattle.std.specs.List.{list_all}
use Rattle.std.specs.Str.{bytes_eq}
use Rattle.std.specs.Str.Parse.{digits_value}

-- ---- what stands in a line and in a word of it

-- no line end (10)
abbrev pub is_line : List ℕ → Bool
is_line text = list_all (λ b. not (b == 10)) text

-- neither a blank nor a control of ASCII
abbrev pub is_word : List ℕ → Bool
is_word text = list_all (λ b. nat_lt 32 b) text

-- ---- the lines of a text

-- one more byte at the start of the first line, which there has to be
abbrev pub with_first : ℕ → List (List ℕ) → Option (List (List ℕ))
with_first b [] = None
with_first b (line ∷ lines) = Some ((b ∷ line) ∷ lines)

-- the lines without their ends; none where the last line has no end
unfoldable pub lines_of : List ℕ → Option (List (List ℕ))
lines_of [] = Some []
lines_of (b ∷ bytes) =
    if b == 10 then option_map (λ (lines : List (List ℕ)). [] ∷ lines) (lines_of bytes)
    else option_and_then (with_first b) (lines_of bytes)

-- ---- the words of a line

-- the bytes before the first blank (32), and those after it; none where there is no blank
unfoldable pub word_of : List ℕ → Option (List ℕ × List ℕ)
word_of [] = None
word_of (b ∷ bytes) =
    if b == 32 then Some ([], bytes) else option_map (λ (w : List ℕ × List ℕ). (b ∷ w.0, w.1)) (word_of bytes)

-- a number below 2^64, where this is its text in decimal
abbrev pub number_if : List ℕ → ℕ → Option ℕ
number_if word n = if bytes_eq word (decimal n) && nat_lt n (2 ^ 64) then Some n else None

unfoldable pub number_of : List ℕ → Option ℕ
number_of word = number_if word (digits_value 10 word)

-- ---- the facts of a text

-- what each line tells; none where one tells nothing
unfoldable pub each_of : {A : Type 0} → (List ℕ → Option A) → List (List ℕ) → Option (List A)
each_of fact [] = Some []
each_of fact (line ∷ lines) =
    option_and_then (λ a. option_map (λ facts. a ∷ facts) (each_of fact lines)) (fact line)

-- what the lines of a text tell
abbrev pub facts_of : {A : Type 0} → (List ℕ → Option A) → List ℕ → Option (List A)
facts_of fact text = option_and_then (each_of fact) (lines_of text)
