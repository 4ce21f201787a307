use Rattle.std.proofs.Common.{◌≡◌, drop}
use Rattle.ad_schema_defaults.specs.NewClass.{classes_named}
use Rattle.ad_schema_defaults.proofs.Naming.{behind, ids}
use Rattle.ad_schema_defaults.proofs.class.classes_named.Given as goal

-- what is left is named after what was
abbrev pub invariant-loop-name : goal.invariant-loop-name
invariant-loop-name l = behind (ids l.classes.items) (classes_named l.schema (drop l.name-index l.names))
    ≡ classes_named l.schema l.names
