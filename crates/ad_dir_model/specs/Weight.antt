-- The weight of a directory: how many bytes the rows of its objects have, without descriptors, and without an
-- adminCount whose one value is 1.
use Rattle.std.specs.Prelude.{ℕ, ◌+◌, Bool, false, ◌&&◌, if◌then◌else◌, codes, List, [], ◌∷◌, length}
use Rattle.std.specs.Str.{bytes_eq}
use Rattle.ad_schema.specs.declared.line.SchemaRecord.{SchemaRecord}
use Rattle.ad_dir_model.specs.Object.{Stored, plain, link, Held, Object}
use Rattle.ad_dir_model.specs.Attributes.{is_named}
use Rattle.ad_dir_model.specs.Directory.{Directory}

-- a value's length in eight bytes, and the value; a link in four
abbrev pub stored_weight : Stored → ℕ
stored_weight (plain value) = 8 + length value.shown
stored_weight (link number) = 12

unfoldable pub values_weight : List Stored → ℕ
values_weight [] = 0
values_weight (value ∷ values) = stored_weight value + values_weight values

abbrev pub shows_one : Stored → Bool
shows_one (plain value) = bytes_eq value.shown (codes "1")
shows_one (link number) = false

abbrev pub is_only_one : List Stored → Bool
is_only_one [] = false
is_only_one (value ∷ []) = shows_one value
is_only_one (value ∷ other ∷ others) = false

-- the attribute in four bytes, the number of values in eight, and the values
abbrev pub held_weight : List SchemaRecord → Held → ℕ
held_weight schema held =
    if is_named schema (codes "adminCount") held.attr && is_only_one held.values then 0
    else 12 + values_weight held.values

unfoldable pub all_held_weight : List SchemaRecord → List Held → ℕ
all_held_weight schema [] = 0
all_held_weight schema (held ∷ others) = held_weight schema held + all_held_weight schema others

-- parent and class in four bytes each, the naming value after its length, the number of attributes in eight bytes,
-- and these
unfoldable pub object_weight : List SchemaRecord → Object → ℕ
object_weight schema o = 24 + length o.name + all_held_weight schema o.values

unfoldable pub objects_weight : List SchemaRecord → List Object → ℕ
objects_weight schema [] = 0
objects_weight schema (o ∷ others) = object_weight schema o + objects_weight schema others

unfoldable pub weight : Directory → ℕ
weight dir = objects_weight dir.schema dir.objects
