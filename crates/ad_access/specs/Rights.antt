-- The rights at the nodes of a tree.
use Rattle.std.specs.Prelude.{ℕ, Bool, List, slice_index_or}
use Rattle.ad_acl.specs.Mask.{has_bit}

-- the rights at a place have the right
abbrev pub right_at : List ℕ → ℕ → ℕ → Bool
right_at rights bit place = has_bit (slice_index_or rights place 0) bit
