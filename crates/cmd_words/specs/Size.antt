-- How large a sample is, as a word.
use Rattle.std.specs.Prelude.{ℕ, ◌+◌, ◌-◌, ◌*◌, nat_lt, Bool, ◌&&◌, List, [], ◌∷◌, codes, Option, Some, None}
use Rattle.std.specs.Prelude.{if◌then◌else◌}
use Rattle.std.specs.Str.{bytes_eq}

abbrev pub max_size : ℕ
max_size = 1000

-- a decimal digit, and one that a number may begin with
abbrev pub is_digit : ℕ → Bool
is_digit byte = nat_lt 47 byte && nat_lt byte 58

abbrev pub is_first : ℕ → Bool
is_first byte = nat_lt 48 byte && nat_lt byte 58

-- a number from 1 to 1,000, in decimal without leading zero
abbrev pub size_of : List ℕ → Option ℕ
size_of [] = None
size_of (a ∷ []) = if is_first a then Some (a - 48) else None
size_of (a ∷ b ∷ []) = if is_first a && is_digit b then Some ((a - 48) * 10 + (b - 48)) else None
size_of (a ∷ b ∷ c ∷ []) = if is_first a && (is_digit b && is_digit c)
    then Some (((a - 48) * 10 + (b - 48)) * 10 + (c - 48)) else None
size_of (a ∷ b ∷ c ∷ d ∷ []) = if bytes_eq (a ∷ b ∷ c ∷ d ∷ []) (codes "1000") then Some max_size else None
size_of (a ∷ b ∷ c ∷ d ∷ e ∷ others) = None
