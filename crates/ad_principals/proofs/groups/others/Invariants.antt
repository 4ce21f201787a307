use Rattle.std.proofs.Common.{◌≡◌, take}
use Rattle.std.specs.Prelude.{filter, not}
use Rattle.std.specs.List.{AllByRecursion}
use Rattle.ad_ids.specs.Sid.{IsSid}
use Rattle.ad_ids.specs.SidValue.{same_sid}
use Rattle.ad_principals.proofs.groups.others.Given as goal

-- those so far but for the user's
abbrev pub invariant-loop-sid : goal.invariant-loop-sid
invariant-loop-sid l = record {
  are : l.others.items ≡ filter (λ sid. not (same_sid sid l.user)) (take l.sid-index l.sids);
  ranges : AllByRecursion IsSid l.others.items;
}
