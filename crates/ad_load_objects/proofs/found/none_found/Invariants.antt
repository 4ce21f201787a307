use Rattle.std.proofs.Common.{List}
use Rattle.ad_schema.specs.declared.line.SchemaRecord.{SchemaRecord}
use Rattle.ad_load_objects.specs.Found.{AreFound}
use Rattle.ad_load_objects.proofs.found.none_found.Given as goal

abbrev pub invariant-loop : goal.invariant-loop
invariant-loop l = (schema : List SchemaRecord) → AreFound schema l.found.items
