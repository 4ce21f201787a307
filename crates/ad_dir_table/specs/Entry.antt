-- Objects as a directory keeps them.
use Rattle.std.specs.Prelude.{◌≡◌, Option, List, map}
use Rattle.std.specs.List.{AllByRecursion}
use Rattle.ad_ids.specs.SidValue.{SidValue}
use Rattle.ad_schema.specs.declared.line.SchemaRecord.{SchemaRecord}
use Rattle.sd_pool.specs.Pool.{Pool}
use Rattle.ad_dir_model.specs.Object.{Object}
use Rattle.ad_dir_model.specs.Identity.{sid_in}

-- an object with its descriptor, and the identifier that is noted beside it
pub record Entry : Type 0 where
  pub object : Object
  pub sid : Option SidValue

-- the objects of the model's list
abbrev pub objects_in : List Entry → List Object
objects_in entries = map (λ entry. entry.object) entries

-- the identifier that is noted is the object's own
abbrev pub HasItsSid : List SchemaRecord → Entry → Type 0
HasItsSid schema entry = entry.sid ≡ sid_in schema entry.object

abbrev pub HaveTheirSids : List SchemaRecord → List Entry → Type 0
HaveTheirSids schema entries = AllByRecursion (HasItsSid schema) entries

-- the objects by rising number, and the pool of their descriptors
pub record Holding : Type 0 where
  pub entries : List Entry
  pub pool : Pool
