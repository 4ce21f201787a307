-- The base directory without its values: the root's list gets an entry, four steps are made, and a container is
-- moved.
use Rattle.std.specs.Prelude.{◌≡◌, true, false, codes, [], ◌∷◌, map, refl}
use Rattle.ad_ids.specs.SidValue.{SidValue}
use Rattle.ad_sd.specs.declared.parts.Sd.{Sd}
use Rattle.ad_inherit.specs.Copies.{copies}
use Rattle.ad_inherit.specs.Whole.{explicit_part, whole}
use Rattle.ad_dir_model.specs.Objects.{object_of, object_at, sd_at, next_child, put}
use Rattle.ad_dir_model.specs.Directory.{Directory}
use Rattle.ad_dir_model.specs.SameSd.{same_sd}
use Rattle.ad_dir_model.specs.Inheritance.{guid_at, whole_at, marked_if_changed, stored, written}
use Rattle.ad_dir_model.specs.Steps.{step, steps}
use Rattle.ad_dir_model.specs.Changes.{changed, renamed}
use Rattle.ad_dir_model.specs.examples.Staff.{allow, administrators, sd_of, root_entries, inherited_entries, object}
use Rattle.ad_dir_model.specs.examples.Staff.{pending_of}

abbrev pub system : SidValue
system = record { authority = 5; sub_authorities = 18 ∷ [] }

abbrev pub restricted : SidValue
restricted = record { authority = 5; sub_authorities = 12 ∷ [] }

-- the default descriptor of a class, with what the root passes down
abbrev pub default_sd : Sd
default_sd = sd_of false (allow 0 0x10000000 system ∷ inherited_entries)

-- that of AdminSDHolder, protected
abbrev pub holder_sd : Sd
holder_sd = sd_of true (allow 0 0x10000000 administrators ∷ [])

abbrev pub base : Directory
base = record {
  schema = [];
  objects =
      object 1 0 (codes "corp") (sd_of false root_entries)
      ∷ object 2 1 (codes "System") default_sd
      ∷ object 3 1 (codes "staff") default_sd
      ∷ object 4 1 (codes "Administrators") default_sd
      ∷ object 5 1 (codes "Configuration") default_sd
      ∷ object 6 2 (codes "AdminSDHolder") holder_sd
      ∷ object 7 3 (codes "ann") default_sd
      ∷ object 8 3 (codes "bob") default_sd
      ∷ object 9 3 (codes "pc1") default_sd
      ∷ object 10 3 (codes "club") default_sd
      ∷ object 11 5 (codes "Services") default_sd
      ∷ object 12 11 (codes "Windows NT") default_sd
      ∷ object 13 12 (codes "Directory Service") default_sd
      ∷ [];
  pending = [];
  meta = record { next_number = 14; next_rid = 1005; suffix = [] };
}

-- listing for all who are restricted, on the root
abbrev pub listed : Directory
listed = written base (object 1 0 (codes "corp") (sd_of false (allow 0x02 0x80 restricted ∷ root_entries)))

-- after four steps the container goes below AdminSDHolder, which passes nothing down
abbrev pub moved : Directory
moved = renamed (steps 4 listed) 11 6 (codes "Services")

pub six_pending : moved.pending ≡ pending_of 1 5 ∷ pending_of 2 0 ∷ pending_of 3 0 ∷ pending_of 4 0 ∷ pending_of 5 0
    ∷ pending_of 11 0 ∷ []
unfolding step steps written stored changed renamed whole_at whole explicit_part copies guid_at object_at object_of
    put marked_if_changed same_sd next_child
six_pending = refl

-- 19 steps, and no fewer
pub nineteen_steps : (steps 19 moved).pending ≡ []
unfolding step steps written stored changed renamed whole_at whole explicit_part copies guid_at object_at object_of
    put marked_if_changed same_sd next_child
nineteen_steps = refl

pub not_eighteen : (steps 18 moved).pending ≡ pending_of 13 0 ∷ []
unfolding step steps written stored changed renamed whole_at whole explicit_part copies guid_at object_at object_of
    put marked_if_changed same_sd next_child
not_eighteen = refl

-- then there are four descriptors: the root's, AdminSDHolder's, that of the moved container and of those below it,
-- and that of all others
abbrev pub moved_sd : Sd
moved_sd = sd_of false (allow 0 0x10000000 system ∷ [])

abbrev pub other_sd : Sd
other_sd = sd_of false (allow 0 0x10000000 system ∷ allow 0x12 0x80 restricted ∷ inherited_entries)

pub those_moved : map (sd_at (steps 19 moved).objects) (11 ∷ 12 ∷ 13 ∷ []) ≡ moved_sd ∷ moved_sd ∷ moved_sd ∷ []
unfolding step steps written stored changed renamed whole_at whole explicit_part copies guid_at object_at object_of
    put marked_if_changed same_sd next_child
those_moved = refl

pub all_others : map (sd_at (steps 19 moved).objects) (2 ∷ 3 ∷ 4 ∷ 5 ∷ 7 ∷ 8 ∷ 9 ∷ 10 ∷ [])
    ≡ other_sd ∷ other_sd ∷ other_sd ∷ other_sd ∷ other_sd ∷ other_sd ∷ other_sd ∷ other_sd ∷ []
unfolding step steps written stored changed renamed whole_at whole explicit_part copies guid_at object_at object_of
    put marked_if_changed same_sd next_child
all_others = refl

pub holder_stays : sd_at (steps 19 moved).objects 6 ≡ holder_sd
unfolding step steps written stored changed renamed whole_at whole explicit_part copies guid_at object_at object_of
    put marked_if_changed same_sd next_child
holder_stays = refl
