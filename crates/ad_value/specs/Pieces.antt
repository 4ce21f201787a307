-- When a text has the pieces that it is searched for.
use Rattle.std.specs.Prelude.{◌≡◌, ℕ, ◌-◌, Bool, true, false, ◌&&◌, ◌||◌, List, [], ◌∷◌, ◌++◌, length, take, drop}
use Rattle.std.specs.Prelude.{unwrap_or}
use Rattle.std.specs.Str.{bytes_eq}
use Rattle.ad_value.specs.declared.value.Key.{Key}
use Rattle.ad_value.specs.declared.value.Key.TheVariants as key
use Rattle.ad_value.specs.declared.pattern.Pattern.{Pattern}

-- the piece stands in the text, and what stands after it is as said
pub record StandsBefore (piece : List ℕ) (Follows : List ℕ → Type 0) (text : List ℕ) : Type 0 where
  pub before : List ℕ
  pub after : List ℕ
  pub parts : text ≡ before ++ (piece ++ after)
  pub follows : Follows after

-- the pieces stand in the text, each after the one before it
abbrev pub Stand : List (List ℕ) → List ℕ → Type 0
Stand [] text = Unit {0}
Stand (piece ∷ pieces) text = StandsBefore piece (Stand pieces) text

-- The text is the first piece, a text in which the middle pieces stand, and the last piece. A first or last piece
-- that isn't given is empty.
pub record FitsText (parts : Pattern) (text : List ℕ) : Type 0 where
  pub middle : List ℕ
  pub parts_are : text ≡ unwrap_or parts.first [] ++ (middle ++ unwrap_or parts.last [])
  pub stand : Stand parts.middle middle

-- a key fits where it is such a text; a number fits no pattern
abbrev pub Fits : Pattern → Key → Type 0
Fits parts (key.Bytes text) = FitsText parts text
Fits parts (key.Number n) = ⊥

-- ---- the same as tests, for definitions that compute

-- the text begins with the piece, and what is after it passes the test
abbrev pub begins_before : List ℕ → (List ℕ → Bool) → List ℕ → Bool
begins_before piece test text = bytes_eq (take (length piece) text) piece && test (drop (length piece) text)

-- some end of the text passes the test
abbrev pub some_end : (List ℕ → Bool) → List ℕ → Bool
some_end test [] = test []
some_end test (b ∷ bytes) = test (b ∷ bytes) || some_end test bytes

unfoldable pub stands_in : List (List ℕ) → List ℕ → Bool
stands_in [] text = true
stands_in (piece ∷ pieces) text = some_end (begins_before piece (stands_in pieces)) text

-- the text ends with the piece, and what is before it passes the test
abbrev pub ends_after : List ℕ → (List ℕ → Bool) → List ℕ → Bool
ends_after piece test text = bytes_eq (drop (length text - length piece) text) piece
    && test (take (length text - length piece) text)

unfoldable pub fits_text : Pattern → List ℕ → Bool
fits_text parts text = begins_before (unwrap_or parts.first [])
    (ends_after (unwrap_or parts.last []) (stands_in parts.middle)) text

abbrev pub fits_key : Pattern → Key → Bool
fits_key parts (key.Bytes text) = fits_text parts text
fits_key parts (key.Number n) = false
