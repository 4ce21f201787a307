-- The weight of all objects, where it is known.
use Rattle.std.specs.Prelude.{◌≡◌, ℕ, Option, Some, None, List}
use Rattle.std.specs.Option.{option_map_or}
use Rattle.ad_schema.specs.declared.line.SchemaRecord.{SchemaRecord}
use Rattle.ad_dir_model.specs.Object.{Object}
use Rattle.ad_dir_model.specs.Objects.{object_of}
use Rattle.ad_dir_model.specs.Weight.{object_weight, objects_weight}

-- a weight that is known is this one
abbrev pub WeighsOne : Option ℕ → ℕ → Type 0
WeighsOne None weight = Unit {0}
WeighsOne (Some known) weight = known ≡ weight

abbrev pub Weighs : List SchemaRecord → Option ℕ → List Object → Type 0
Weighs schema known objects = WeighsOne known (objects_weight schema objects)

-- what the object of a number weighs, if there is one
abbrev pub weight_in : List SchemaRecord → List Object → ℕ → ℕ
weight_in schema objects number = option_map_or (object_weight schema) (object_of objects number) 0
