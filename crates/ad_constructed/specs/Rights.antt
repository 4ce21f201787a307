-- What one may do at an object.
use Rattle.std.specs.Prelude.{ℕ, ◌+◌, Bool, if◌then◌else◌}

-- Which attributes may be written and objects of which classes created below it, by their places in the schema; and
-- whether the owner and the group, the DACL, and the SACL of its descriptor may be written.
pub record RightsValue : Type 0 where
  pub may_write : ℕ → Bool
  pub may_create : ℕ → Bool
  pub may_write_owner : Bool
  pub may_write_list : Bool
  pub may_write_system_list : Bool

abbrev pub if_may : Bool → ℕ → ℕ
if_may may flags = if may then flags else 0

-- The parts of the descriptor that may be written, as flags: 3 for the owner and the group, 4 for the DACL, 8 for the
-- SACL.
unfoldable pub parts_of : RightsValue → ℕ
parts_of rights = if_may rights.may_write_owner 3 + if_may rights.may_write_list 4
    + if_may rights.may_write_system_list 8
