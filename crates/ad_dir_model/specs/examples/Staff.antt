-- A small directory: a root, an organizational unit with two users, a computer and a group, and what steps make of
-- it.
use Rattle.std.specs.Prelude.{◌≡◌, ℕ, Bool, false, codes, None, List, [], ◌∷◌, map, refl}
use Rattle.ad_ids.specs.SidValue.{SidValue}
use Rattle.ad_acl.specs.declared.kind.AceKind.TheVariants.{Allow}
use Rattle.ad_acl.specs.Entry.{Entry}
use Rattle.ad_sd.specs.declared.parts.Sd.{Sd}
use Rattle.ad_inherit.specs.Copies.{copies}
use Rattle.ad_inherit.specs.Whole.{explicit_part, whole}
use Rattle.prop_queue.specs.declared.pending.Pending.{Pending}
use Rattle.ad_dir_model.specs.Limits.{max_depth}
use Rattle.ad_dir_model.specs.Object.{Object, no_list}
use Rattle.ad_dir_model.specs.Objects.{object_of, object_at, sd_at, next_child, put}
use Rattle.ad_dir_model.specs.Tree.{is_below_within, is_below}
use Rattle.ad_dir_model.specs.Directory.{Directory}
use Rattle.ad_dir_model.specs.SameSd.{same_sd}
use Rattle.ad_dir_model.specs.Inheritance.{guid_at, whole_at, marked_if_changed, stored, written}
use Rattle.ad_dir_model.specs.Steps.{step, steps}
use Rattle.ad_dir_model.specs.Changes.{remaining, goes_with, deleted}

-- ---- descriptors

abbrev pub administrators : SidValue
administrators = record { authority = 5; sub_authorities = 32 ∷ 544 ∷ [] }

abbrev pub authenticated : SidValue
authenticated = record { authority = 5; sub_authorities = 11 ∷ [] }

abbrev pub allow : ℕ → ℕ → SidValue → Entry
allow flags mask sid = record { kind = Allow; flags = flags; mask = mask; object = None; inherited = None; sid = sid }

abbrev pub sd_of : Bool → List Entry → Sd
sd_of protected entries = record {
  owner = administrators;
  group = administrators;
  dacl = record { protected = protected; entries = entries };
  sacl = no_list;
}

-- full access for Administrators, and reading for all who are authenticated; passed down
abbrev pub root_entries : List Entry
root_entries = allow 0x02 0x10000000 administrators ∷ allow 0x02 0x20094 authenticated ∷ []

-- the same as children have it
abbrev pub inherited_entries : List Entry
inherited_entries = allow 0x12 0x10000000 administrators ∷ allow 0x12 0x20094 authenticated ∷ []

-- ---- the directory

abbrev pub object : ℕ → ℕ → List ℕ → Sd → Object
object number parent name sd = record { number = number; parent = parent; class = 0; name = name; values = []; sd = sd }

abbrev pub staff : Directory
staff = record {
  schema = [];
  objects =
      object 1 0 (codes "corp") (sd_of false root_entries)
      ∷ object 3 1 (codes "staff") (sd_of false inherited_entries)
      ∷ object 7 3 (codes "ann") (sd_of false inherited_entries)
      ∷ object 8 3 (codes "bob") (sd_of false inherited_entries)
      ∷ object 9 3 (codes "pc1") (sd_of false inherited_entries)
      ∷ object 10 3 (codes "club") (sd_of false inherited_entries)
      ∷ [];
  pending = [];
  meta = record { next_number = 14; next_rid = 1005; suffix = [] };
}

-- the unit's list gets entries that pass down
abbrev pub staff_with : List Entry → Directory → Directory
staff_with entries dir = written dir (object 3 1 (codes "staff") (sd_of false entries))

-- writing for all who are authenticated
abbrev pub write_entry : Entry
write_entry = allow 0x02 0x20 authenticated

-- and deleting too
abbrev pub delete_entry : Entry
delete_entry = allow 0x02 0x10000 authenticated

abbrev pub pending_of : ℕ → ℕ → Pending
pending_of parent cursor = record { parent = parent; cursor = cursor }

-- ---- one write of the unit's list

abbrev pub once : Directory
once = staff_with (write_entry ∷ []) staff

-- it marks the unit
pub marks_the_unit : once.pending ≡ pending_of 3 0 ∷ []
unfolding step steps written stored whole_at whole explicit_part copies guid_at object_at object_of put
    marked_if_changed same_sd next_child
marks_the_unit = refl

-- after one step the first user has it, and two are pending
pub one_step : (steps 1 once).pending ≡ pending_of 3 7 ∷ pending_of 7 0 ∷ []
unfolding step steps written stored whole_at whole explicit_part copies guid_at object_at object_of put
    marked_if_changed same_sd next_child
one_step = refl

-- with eight more nothing is pending, and not before
pub eight_more : (steps 9 once).pending ≡ []
unfolding step steps written stored whole_at whole explicit_part copies guid_at object_at object_of put
    marked_if_changed same_sd next_child
eight_more = refl

pub not_with_seven : (steps 8 once).pending ≡ pending_of 10 0 ∷ []
unfolding step steps written stored whole_at whole explicit_part copies guid_at object_at object_of put
    marked_if_changed same_sd next_child
not_with_seven = refl

-- what a child has then
abbrev pub with_copy : Sd
with_copy = sd_of false (allow 0x12 0x20 authenticated ∷ inherited_entries)

pub each_child : map (sd_at (steps 9 once).objects) (7 ∷ 8 ∷ 9 ∷ 10 ∷ []) ≡ with_copy ∷ with_copy ∷ with_copy
    ∷ with_copy ∷ []
unfolding step steps written stored whole_at whole explicit_part copies guid_at object_at object_of put
    marked_if_changed same_sd next_child
each_child = refl

-- ---- two steps, and then another write

abbrev pub twice : Directory
twice = staff_with (write_entry ∷ delete_entry ∷ []) (steps 2 once)

-- the unit starts again in its place
pub starts_again : twice.pending ≡ pending_of 3 0 ∷ pending_of 7 0 ∷ pending_of 8 0 ∷ []
unfolding step steps written stored whole_at whole explicit_part copies guid_at object_at object_of put
    marked_if_changed same_sd next_child
starts_again = refl

pub nine_steps : (steps 9 twice).pending ≡ []
unfolding step steps written stored whole_at whole explicit_part copies guid_at object_at object_of put
    marked_if_changed same_sd next_child
nine_steps = refl

pub not_eight : (steps 8 twice).pending ≡ pending_of 10 0 ∷ []
unfolding step steps written stored whole_at whole explicit_part copies guid_at object_at object_of put
    marked_if_changed same_sd next_child
not_eight = refl

abbrev pub with_both : Sd
with_both = sd_of false (allow 0x12 0x20 authenticated ∷ allow 0x12 0x10000 authenticated ∷ inherited_entries)

pub both_entries : map (sd_at (steps 9 twice).objects) (7 ∷ 8 ∷ 9 ∷ 10 ∷ []) ≡ with_both ∷ with_both ∷ with_both
    ∷ with_both ∷ []
unfolding step steps written stored whole_at whole explicit_part copies guid_at object_at object_of put
    marked_if_changed same_sd next_child
both_entries = refl

-- ---- two steps, and then the group is deleted

abbrev pub without_group : Directory
without_group = deleted (steps 2 once) 10

pub three_pending : without_group.pending ≡ pending_of 3 8 ∷ pending_of 7 0 ∷ pending_of 8 0 ∷ []
unfolding step steps written stored whole_at whole explicit_part copies guid_at object_at object_of put
    marked_if_changed same_sd next_child deleted remaining goes_with is_below is_below_within max_depth
three_pending = refl

pub five_steps : (steps 5 without_group).pending ≡ []
unfolding step steps written stored whole_at whole explicit_part copies guid_at object_at object_of put
    marked_if_changed same_sd next_child deleted remaining goes_with is_below is_below_within max_depth
five_steps = refl

pub not_four : (steps 4 without_group).pending ≡ pending_of 9 0 ∷ []
unfolding step steps written stored whole_at whole explicit_part copies guid_at object_at object_of put
    marked_if_changed same_sd next_child deleted remaining goes_with is_below is_below_within max_depth
not_four = refl
