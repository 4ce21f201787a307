use Rattle.std.proofs.Common.{◌≡◌, ◌++◌, take}
use Rattle.std.specs.Prelude.{filter_map}
use Rattle.std.specs.List.{AllByRecursion}
use Rattle.ad_ids.specs.Sid.{IsSid}
use Rattle.ad_control_nodes.specs.Steps.{lone_sid}
use Rattle.ad_control_nodes.proofs.nodes.put_lone.Given as goal

-- those so far
abbrev pub invariant-loop-identity : goal.invariant-loop-identity
invariant-loop-identity l = record {
  are : l.into.items ≡ l.initial.into.items ++ filter_map lone_sid (take l.identity-index l.all);
  ranges : AllByRecursion IsSid l.initial.into.items → AllByRecursion IsSid l.into.items;
}
