-- What a call that puts bytes at the end does, and the pieces of a line.
use Rattle.std.specs.Prelude.{◌≡◌, ℕ, List, ◌++◌, codes}

-- the piece stands after what was there
pub record Puts (before after piece : List ℕ) : Type 0 where
  pub is : after ≡ before ++ piece

-- a piece and a blank
abbrev pub spaced : List ℕ → List ℕ
spaced text = text ++ codes " "

-- a piece and the end of its line
abbrev pub ended : List ℕ → List ℕ
ended text = text ++ codes "\n"

-- a line: a label, which ends with its own blank, and a text
abbrev pub labelled : List ℕ → List ℕ → List ℕ
labelled label text = label ++ ended text
