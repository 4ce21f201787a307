use Rattle.std.proofs.Common.{◌≡◌, take}
use Rattle.std.specs.Prelude.{filter}
use Rattle.std.specs.List.{AllByRecursion}
use Rattle.ad_ids.specs.Sid.{IsSid}
use Rattle.ad_identities.specs.Told.{may_stand}
use Rattle.ad_identities.proofs.alone.standing.Given as goal

-- those so far of which that holds
abbrev pub invariant-loop-sid : goal.invariant-loop-sid
invariant-loop-sid l = record {
  are : l.those.items ≡ filter (may_stand l.dir) (take l.sid-index l.sids);
  ranges : AllByRecursion IsSid l.those.items;
}
