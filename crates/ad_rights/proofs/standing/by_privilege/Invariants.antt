use Rattle.std.proofs.Common.{◌≡◌, map, take}
use Rattle.ad_rights.specs.Standing.{by_privilege}
use Rattle.ad_rights.proofs.standing.by_privilege.Given as goal

-- those so far
abbrev pub invariant-loop-takes : goal.invariant-loop-takes
invariant-loop-takes l = l.stands.items ≡ map (by_privilege l.counts) (take l.takes-index l.takers)
