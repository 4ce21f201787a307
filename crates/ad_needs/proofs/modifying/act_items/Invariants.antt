use Rattle.std.proofs.Common.{◌≡◌, ◌++◌, List, map, drop}
use Rattle.std.specs.Prelude.{filter_map}
use Rattle.ad_schema.specs.declared.line.SchemaRecord.{SchemaRecord}
use Rattle.ad_needs_rules.specs.Modifying.{act_item}
use Rattle.ad_needs.specs.Decoding.{attr_of}
use Rattle.ad_needs.proofs.modifying.act_items.Given as goal

-- those so far and those that are left are all, where the attributes are those of the names
abbrev pub invariant-each : goal.invariant-each
invariant-each l =
    (schema : List SchemaRecord) → l.decoded.attrs.items ≡ map (attr_of schema) l.decoded.items.now
    → l.all ++ filter_map (act_item schema) (drop l.i l.decoded.items.now)
    ≡ filter_map (act_item schema) l.decoded.items.now
