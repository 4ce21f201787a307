use Rattle.std.proofs.Common.{◌≡◌, true, take}
use Rattle.ad_ids.specs.SidValue.{contains_sid}
use Rattle.ad_principals.specs.Reaching.{Takes}
use Rattle.ad_principals.proofs.taking.take_all.Given as goal

-- those so far are taken
abbrev pub invariant-loop-sid : goal.invariant-loop-sid
invariant-loop-sid l = Takes (λ s. contains_sid (take l.sid-index l.sids) s ≡ true) l.initial.taken.keys l.taken.keys
