use Rattle.std.proofs.Common.{◌≡◌, ◌++◌, ◌-◌, map}
use Rattle.std.specs.BTreeMap.{btree_map_len}
use Rattle.ad_dir_objects.specs.Seen.{held_seen}
use Rattle.ad_load.specs.Seen.{by_attr}
use Rattle.ad_load.proofs.by_attr.in_order.Given as goal

-- what is moved, and what is left
abbrev pub invariant-loop : goal.invariant-loop
invariant-loop l = record {
  moved : map held_seen l.all.items ++ by_attr l.values.entries ≡ by_attr l.initial.values.entries;
  left : btree_map_len l.values ≡ l.count - l.counter;
}
