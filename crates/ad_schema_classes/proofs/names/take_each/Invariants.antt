use Rattle.std.proofs.Common.{◌≡◌, drop}
use Rattle.ad_schema_classes.specs.Hashes.{hash_behind}
use Rattle.ad_schema_classes.proofs.names.take_each.Given as goal

abbrev pub invariant-loop-byte : goal.invariant-loop-byte
invariant-loop-byte l = hash_behind l.hasher (drop l.byte-index l.name) ≡ hash_behind l.fn.hasher l.name
