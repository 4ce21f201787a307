-- The type of a relative distinguished name, as `CN`.
use Rattle.std.specs.Prelude.{ℕ, nat_le, Bool, false, ◌==◌, ◌&&◌, ◌||◌, List, [], ◌∷◌, IsTrue}
use Rattle.std.specs.List.{list_all}

abbrev pub is_upper : ℕ → Bool
is_upper b = nat_le 65 b && nat_le b 90

abbrev pub is_lower : ℕ → Bool
is_lower b = nat_le 97 b && nat_le b 122

abbrev pub is_letter : ℕ → Bool
is_letter b = is_upper b || is_lower b

abbrev pub is_digit : ℕ → Bool
is_digit b = nat_le 48 b && nat_le b 57

-- a letter, a digit or a hyphen
abbrev pub is_type_byte : ℕ → Bool
is_type_byte b = is_letter b || is_digit b || (b == 45)

-- a letter, and then letters, digits and hyphens
abbrev pub is_type : List ℕ → Bool
is_type [] = false
is_type (b ∷ bytes) = is_letter b && list_all is_type_byte bytes

abbrev pub IsType : List ℕ → Type 0
IsType bytes = IsTrue (is_type bytes)
