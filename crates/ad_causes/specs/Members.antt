-- Who is named by a member of which object, in one directory and not in the other.
use Rattle.std.specs.Prelude.{ℕ, Bool, false, if◌then◌else◌, List, [], ◌∷◌}
use Rattle.std.specs.List.{flat_map}
use Rattle.std.specs.Option.{option_map_or}
use Rattle.ad_dir_model.specs.Directory.{Directory}
use Rattle.ad_dir_model.specs.Object.{Stored, plain, link, stored_in}
use Rattle.ad_dir_model.specs.Objects.{is_live, object_at, numbers}
use Rattle.ad_dir_model.specs.Attributes.{member as member_place}
use Rattle.ad_dir_model.specs.Protection.{has}
use Rattle.ad_both.specs.Both.{counterpart}
use Rattle.ad_causes.specs.Cause.{Cause, member, name_at}

-- ---- in one directory

-- the stored values of member
unfoldable pub member_values : Directory → ℕ → List Stored
member_values dir number = option_map_or (λ place. stored_in (object_at dir.objects number).values place)
    (member_place dir.schema) []

-- the live object that a value names
abbrev pub member_in : Directory → Stored → List ℕ
member_in dir (plain value) = []
member_in dir (link number) = if is_live dir.objects number then number ∷ [] else []

-- those that the values name
unfoldable pub members_of : Directory → ℕ → List ℕ
members_of dir number = flat_map (member_in dir) (member_values dir number)

-- ---- in two

-- those that the other directory's object of the same name has as members
unfoldable pub members_there : Directory → Directory → ℕ → List ℕ
members_there dir other group = option_map_or (members_of other) (counterpart dir other group) []

-- the other directory's object of the name is one of these
abbrev pub is_there : Directory → Directory → List ℕ → ℕ → Bool
is_there dir other others number = option_map_or (has others) (counterpart dir other number) false

abbrev pub member_causes : Bool → Directory → Directory → List ℕ → ℕ → ℕ → List Cause
member_causes more dir other others group number =
    if is_there dir other others number then [] else member more (name_at dir group) (name_at dir number) ∷ []

abbrev pub group_causes : Bool → Directory → Directory → ℕ → List Cause
group_causes more dir other group =
    flat_map (member_causes more dir other (members_there dir other group) group) (members_of dir group)

-- the memberships that one directory has and the other hasn't
unfoldable pub membership_causes : Bool → Directory → Directory → List Cause
membership_causes more dir other = flat_map (group_causes more dir other) (numbers dir.objects)
