-- What is left of a weight.
use Rattle.std.specs.Prelude.{ℕ, ◌-◌, nat_le, if◌then◌else◌, Option, Some, None}

-- what is left of so much, where it is enough
abbrev pub left_of : ℕ → ℕ → Option ℕ
left_of left weight = if nat_le weight left then Some (left - weight) else None
