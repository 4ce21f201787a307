use Rattle.std.proofs.Common.{◌≡◌, ◌≤◌, [], map, drop, length}
use Rattle.ad_load_records.specs.Schema.{all_added}
use Rattle.ad_load_records.specs.Seen.{seen}
use Rattle.ad_load_records.proofs.schema.schema_of.Given as goal

-- the records so far are added
abbrev pub invariant-loop-one : goal.invariant-loop-one
invariant-loop-one l = record {
  added : all_added l.builder (map seen (drop l.one-index l.records)) ≡ all_added [] (map seen l.records);
  few : length l.builder ≤ l.one-index;
}
