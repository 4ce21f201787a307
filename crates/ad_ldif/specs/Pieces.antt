-- A text that comes in pieces.
use Rattle.std.specs.Prelude.{◌≡◌, ◌⊎◌, ℕ, ◌+◌, ◌==◌, List, [], ◌∷◌, ◌++◌, if◌then◌else◌}

-- A text ends with an empty line that isn't its first, by LF (10) or by CR LF (13, 10). What follows begins with
-- another record.
abbrev pub EndsRecord : List ℕ → Type 0
EndsRecord text = ((front : List ℕ) × (text ≡ front ++ 10 ∷ 10 ∷ []))
    ⊎ ((front : List ℕ) × (text ≡ front ++ 10 ∷ 13 ∷ 10 ∷ []))

-- how many lines end with LF
abbrev pub one_end : ℕ → ℕ
one_end b = if b == 10 then 1 else 0

unfoldable pub line_ends : List ℕ → ℕ
line_ends [] = 0
line_ends (b ∷ rest) = one_end b + line_ends rest
