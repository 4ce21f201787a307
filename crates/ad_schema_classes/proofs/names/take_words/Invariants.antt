use Rattle.std.proofs.Common.{◌≡◌, ◌≤◌, ◌-◌, drop, length}
use Rattle.ad_schema_classes.specs.Hashes.{hash_behind}
use Rattle.ad_schema_classes.proofs.names.take_words.Given as goal

abbrev pub invariant-loop-at : goal.invariant-loop-at
invariant-loop-at l = record {
  hashed : hash_behind l.hasher (drop l.at l.name) ≡ hash_behind l.fn.hasher l.name;
  within : l.at ≤ length l.name;
}

abbrev pub decreases-loop-at : goal.decreases-loop-at
decreases-loop-at l = length l.name - l.at
