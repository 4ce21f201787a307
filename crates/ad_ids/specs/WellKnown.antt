-- Identifiers that every domain knows.
use Rattle.std.specs.Prelude.{ℕ, [], ◌∷◌}
use Rattle.ad_ids.specs.SidValue.{SidValue}

-- S-1-1-0
abbrev pub everyone : SidValue
everyone = record { authority = 1; sub_authorities = 0 ∷ [] }

-- S-1-5-11
abbrev pub authenticated_users : SidValue
authenticated_users = record { authority = 5; sub_authorities = 11 ∷ [] }

-- S-1-5-32 with one more number
abbrev pub builtin : ℕ → SidValue
builtin number = record { authority = 5; sub_authorities = 32 ∷ number ∷ [] }

-- S-1-5-32-544
abbrev pub administrators : SidValue
administrators = builtin 544

-- S-1-5-32-545
abbrev pub users : SidValue
users = builtin 545
