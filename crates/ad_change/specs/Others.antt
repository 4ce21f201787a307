-- The weight of all objects but one.
use Rattle.std.specs.Prelude.{ℕ, ◌+◌, ◌==◌, if◌then◌else◌, List, [], ◌∷◌}
use Rattle.ad_schema.specs.declared.line.SchemaRecord.{SchemaRecord}
use Rattle.ad_dir_model.specs.Object.{Object}
use Rattle.ad_dir_model.specs.Weight.{object_weight}

-- nothing for the one of this number
unfoldable pub other_weight : List SchemaRecord → ℕ → Object → ℕ
other_weight schema but o = if o.number == but then 0 else object_weight schema o

unfoldable pub others_weight : List SchemaRecord → ℕ → List Object → ℕ
others_weight schema but [] = 0
others_weight schema but (o ∷ others) = other_weight schema but o + others_weight schema but others
