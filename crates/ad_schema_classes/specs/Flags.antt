-- Rows of flags by place.
use Rattle.std.specs.Prelude.{ℕ, Bool, false, List}
use Rattle.std.specs.List.{slice_index_or}

-- the flag of a place
unfoldable pub flag_at : List Bool → ℕ → Bool
flag_at row k = slice_index_or row k false
