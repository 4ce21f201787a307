-- Only for private contracts, invariants and proofs: what is decided of each token so far.
use Rattle.std.specs.Prelude.{ℕ, Bool, true, false, ◌&&◌, if◌then◌else◌, Option, None, Some, List}
use Rattle.std.specs.Prelude.{slice_index_or}

-- what stands at a place
abbrev pub stand_at : List (Option Bool) → ℕ → Option Bool
stand_at stands place = slice_index_or stands place None

-- what is open is decided, where it counts
abbrev pub decided : Bool → Bool → Option Bool → Option Bool
decided counts allow None = if counts then Some allow else None
decided counts allow (Some granted) = Some granted

-- granted to who has the privilege, where it counts
abbrev pub by_privilege : Bool → Bool → Option Bool
by_privilege counts takes = if takes && counts then Some true else None
