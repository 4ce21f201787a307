-- What the sweep over a tree finds of a node.
use Rattle.std.specs.Prelude.{◌≡◌, ℕ, ◌<◌, Bool, true, false, not, ◌&&◌, ◌||◌, Option, None, Some, List}
use Rattle.std.specs.Prelude.{slice_index_or, length, bit_or}
use Rattle.ad_ids.specs.declared.guid.Guid.{Guid}
use Rattle.ad_ids.specs.SidValue.{SidValue}
use Rattle.ad_acl.specs.Mask.{has_bit}
use Rattle.ad_sd.specs.declared.parts.Sd.{Sd}
use Rattle.ad_types.specs.declared.type_tree.Node.{Node}
use Rattle.ad_types.specs.Tree.{path_at}
use Rattle.ad_ids.specs.Guid.{same_guid}
use Rattle.ad_access.specs.Holder.{Holder}
use Rattle.ad_access.specs.Grant.{granted_to}
use Rattle.ad_access.specs.declared.found.Found.{Found}

abbrev pub nothing : Found
nothing = record { about = false; undecided = 0; allowed = 0 }

abbrev pub found_at : List Found → ℕ → Found
found_at found place = slice_index_or found place nothing

-- the entry at hand is about what stands above
abbrev pub about_above : List Found → Option ℕ → Bool
about_above found None = false
about_above found (Some above) = (found_at found above).about

-- An entry with this object type is about a node with the GUID, where it is about what stands above or not.
abbrev pub is_about_below : Option Guid → Bool → Guid → Bool
is_about_below None above guid = true
is_about_below (Some object) above guid = above || same_guid guid object

-- What is found of a node after an entry that decides these rights, where it is about the node: those of them that
-- were undecided are so no longer, and are allowed where the entry allows.
pub record Decides (about : Bool) (rights : ℕ) (allows : Bool) (before after : Found) : Type 0 where
  pub about_is : after.about ≡ about
  pub undecided : (bit : ℕ) → bit < 32 → has_bit after.undecided bit ≡ has_bit before.undecided bit
      && not (about && has_bit rights bit)
  pub allowed : (bit : ℕ) → bit < 32 → has_bit after.allowed bit
      ≡ has_bit before.allowed bit || ((has_bit before.undecided bit && (about && has_bit rights bit)) && allows)

-- no right but these is undecided at one of so many nodes
abbrev pub AreOpen : ℕ → List Found → ℕ → Type 0
AreOpen count found open_rights = (place bit : ℕ) → place < count → bit < 32
    → has_bit (found_at found place).undecided bit ≡ true → has_bit open_rights bit ≡ true

-- nothing is decided of a node yet, for which these rights are wanted
abbrev pub undecided : ℕ → Found
undecided want = record { about = false; undecided = want; allowed = 0 }

-- What is allowed at each node, and what the principal has as the owner, are together what is granted to the
-- principal on the node's path.
pub record IsSwept (sd : Sd) (holder : Holder) (self : Option SidValue) (nodes : List Node) (want : ℕ)
    (found : List Found) (owned : ℕ) : Type 0 where
  pub len : length found ≡ length nodes
  pub each : (place bit : ℕ) → place < length nodes → bit < 32
      → has_bit (bit_or (found_at found place).allowed owned) bit
      ≡ has_bit want bit && granted_to sd.owner sd.dacl.entries holder self (path_at nodes place) bit
