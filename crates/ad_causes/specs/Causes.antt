-- Why rights may differ: all causes from one directory to another, in their order.
use Rattle.std.specs.Prelude.{ℕ, Bool, true, false, not, ◌&&◌, if◌then◌else◌, is_some, List, [], ◌∷◌, ◌++◌, map, slice_get}
use Rattle.std.specs.Prelude.{filter_map, codes}
use Rattle.std.specs.List.{flat_map}
use Rattle.std.specs.Option.{option_map_or}
use Rattle.std.specs.Str.{bytes_eq}
use Rattle.ad_value.specs.Value.{Value}
use Rattle.ad_schema.specs.declared.info.ClassInfo.{ClassInfo}
use Rattle.ad_schema.specs.Classes.{classes_of}
use Rattle.ad_dn.specs.declared.rdn.Dn.{Dn}
use Rattle.ad_dir_model.specs.Directory.{Directory}
use Rattle.ad_dir_model.specs.Object.{Stored, plain, link, stored_in}
use Rattle.ad_dir_model.specs.Objects.{object_at, sd_at, numbers}
use Rattle.ad_dir_model.specs.Attributes.{attr_place, primary_group}
use Rattle.ad_dir_model.specs.Identity.{first_of_attr}
use Rattle.ad_both.specs.declared.both.Both.{Both}
use Rattle.ad_both.specs.Both.{counterpart, objects_of_both}
use Rattle.ad_causes.specs.Extra.{extra, is_none}
use Rattle.ad_causes.specs.Cause.{Cause, object, class, primary, history, name_at, causes_text}
use Rattle.ad_causes.specs.Descriptors.{descriptor_causes}
use Rattle.ad_causes.specs.Members.{membership_causes}
use Rattle.ad_causes.specs.Schema.{schema_causes}

-- ---- objects of one directory

-- an object of whose name the other has none
abbrev pub alone_causes : Bool → Directory → Directory → ℕ → List Cause
alone_causes more dir other number =
    if is_some (counterpart dir other number) then [] else object more (name_at dir number) ∷ []

unfoldable pub all_alone : Bool → Directory → Directory → List Cause
all_alone more dir other = flat_map (alone_causes more dir other) (numbers dir.objects)

-- ---- objects of both

-- the name of its class
unfoldable pub class_name : Directory → ℕ → List ℕ
class_name dir number = option_map_or (λ (info : ClassInfo). info.name)
    (slice_get (classes_of dir.schema) (object_at dir.objects number).class) []

-- what its first primaryGroupID shows
unfoldable pub primary_text : Directory → ℕ → List ℕ
primary_text dir number = option_map_or (λ (value : Value). value.shown)
    (first_of_attr (primary_group dir.schema) (object_at dir.objects number)) []

-- what a value shows, where it is no link
abbrev pub shown_in : Stored → List (List ℕ)
shown_in (plain value) = value.shown ∷ []
shown_in (link number) = []

-- what its values of sIDHistory show
unfoldable pub history_values : Directory → ℕ → List Stored
history_values dir number = option_map_or (λ place. stored_in (object_at dir.objects number).values place)
    (attr_place dir.schema (codes "sIDHistory")) []

unfoldable pub history_texts : Directory → ℕ → List (List ℕ)
history_texts dir number = flat_map shown_in (history_values dir number)

abbrev pub if_changed : Cause → List ℕ → List ℕ → List Cause
if_changed cause was is = if bytes_eq was is then [] else cause ∷ []

-- each as often in the one as in the other, in any order
abbrev pub are_same : List (List ℕ) → List (List ℕ) → Bool
are_same was is = is_none (extra is was) && is_none (extra was is)

abbrev pub history_causes : Dn → List (List ℕ) → List (List ℕ) → List Cause
history_causes name was is = if are_same was is then [] else history name ∷ []

-- an object is told by its name in the second directory
unfoldable pub object_causes : Directory → Directory → Both → List Cause
object_causes before after o =
    let name = name_at after o.after in
    descriptor_causes name (sd_at before.objects o.before) (sd_at after.objects o.after)
    ++ (if_changed (class name) (class_name before o.before) (class_name after o.after)
    ++ (if_changed (primary name) (primary_text before o.before) (primary_text after o.after)
    ++ history_causes name (history_texts before o.before) (history_texts after o.after)))

unfoldable pub all_objects : Directory → Directory → List Cause
all_objects before after = flat_map (object_causes before after) (objects_of_both before after)

-- ---- all

unfoldable pub causes : Directory → Directory → List Cause
causes before after =
    all_alone true after before
    ++ (all_alone false before after
    ++ (all_objects before after
    ++ (membership_causes true after before
    ++ (membership_causes false before after ++ schema_causes before.schema after.schema))))
