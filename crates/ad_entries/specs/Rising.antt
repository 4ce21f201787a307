-- Numbers that rise.
use Rattle.std.specs.Prelude.{ℕ, Bool, ◌==◌, List}
use Rattle.std.specs.List.{list_any}

abbrev pub is_in : ℕ → List ℕ → Bool
is_in number numbers = list_any (λ other. number == other) numbers
