-- An identifier below another one.
use Rattle.std.specs.Prelude.{ℕ, nat_lt, if◌then◌else◌, Option, Some, None, [], ◌∷◌, ◌++◌, length}
use Rattle.ad_ids.specs.SidValue.{SidValue}

-- the identifier with one more sub-authority, where it has fewer than 15
abbrev pub child_of : SidValue → ℕ → Option SidValue
child_of s number = if nat_lt (length s.sub_authorities) 15
    then Some (record { authority = s.authority; sub_authorities = s.sub_authorities ++ number ∷ [] }) else None
