use Rattle.std.proofs.Common.{◌≡◌, false, take}
use Rattle.ad_ids.specs.SidBegun.{begins_with_one}
use Rattle.ad_ids.proofs.sids.begun_in.Given as goal

-- the bytes begin with none of those so far
abbrev pub invariant-loop-sid : goal.invariant-loop-sid
invariant-loop-sid l = begins_with_one l.bytes (take l.sid-index l.items) ≡ false
