-- The limits of a directory. None of them computes where it is named.
use Rattle.std.specs.Prelude.{ℕ, ◌-◌, ◌^◌}

-- live objects
unfoldable pub max_objects : ℕ
max_objects = 65536

-- the number of parents above an object, of which the root has none
unfoldable pub max_depth : ℕ
max_depth = 64

-- the sum of the objects' weights
unfoldable pub max_weight : ℕ
max_weight = 268435456

-- the text of the suffix, and each value of a record of the schema
unfoldable pub max_text : ℕ
max_text = 1048576

-- the numbers that the next object and the next identifier may have
unfoldable pub max_counter : ℕ
max_counter = 2 ^ 32 - 1
