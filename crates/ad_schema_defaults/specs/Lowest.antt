-- How the lowest of classes is found in one pass. Only for private contracts, invariants and proofs.
use Rattle.std.specs.Prelude.{ℕ, Bool, List, Option, Some, None, if◌then◌else◌}
use Rattle.std.specs.List.{list_all}
use Rattle.ad_schema_classes.specs.Chains.{contains}
use Rattle.ad_schema.specs.declared.line.SchemaRecord.{SchemaRecord}
use Rattle.ad_schema.specs.Classes.{chain_of}

-- all of the classes are in its chain
abbrev pub is_below_all : List SchemaRecord → List ℕ → ℕ → Bool
is_below_all schema classes class = list_all (contains (chain_of schema class)) classes

-- the class, where all are in its chain
abbrev pub if_below_all : List SchemaRecord → List ℕ → ℕ → Option ℕ
if_below_all schema classes class = if is_below_all schema classes class then Some class else None

-- the class, or the next one where that isn't in its chain
abbrev pub lower : List SchemaRecord → ℕ → ℕ → ℕ
lower schema class next = if contains (chain_of schema class) next then class else next
