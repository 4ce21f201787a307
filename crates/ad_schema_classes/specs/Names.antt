-- Names that are compared without regard to ASCII case, and their places.
use Rattle.std.specs.Prelude.{ℕ, Bool, List, Option, position}
use Rattle.std.specs.Str.{str_eq_ignore_ascii_case}

-- Two names are the same without regard to ASCII case.
unfoldable pub same_name : List ℕ → List ℕ → Bool
same_name a b = str_eq_ignore_ascii_case a b

-- the place of a name among names
unfoldable pub place_of : List (List ℕ) → List ℕ → Option ℕ
place_of names name = position (λ other. same_name other name) names
