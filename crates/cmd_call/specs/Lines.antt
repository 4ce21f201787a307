-- Lines that commands emit.
use Rattle.std.specs.Prelude.{ℕ, List, [], ◌∷◌, ◌++◌, codes, decimal}

-- a word, a blank, a number and a line end
abbrev pub counted : List ℕ → ℕ → List ℕ
counted word n = word ++ (32 ∷ (decimal n ++ 10 ∷ []))

-- which line of a text has a fault, and what is wrong with it
abbrev pub fault_line : ℕ → List ℕ → List ℕ
fault_line line words = codes "line " ++ (decimal line ++ (32 ∷ (words ++ 10 ∷ [])))
