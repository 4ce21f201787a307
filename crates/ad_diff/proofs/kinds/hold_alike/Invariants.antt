use Rattle.std.proofs.Common.{◌≡◌, take}
use Rattle.std.specs.List.{All}
use Rattle.ad_ids.specs.SidValue.{SidValue}
use Rattle.ad_access.specs.Holder.{first_holder, holds}
use Rattle.ad_diff.proofs.kinds.hold_alike.Given as goal

-- they hold the same of those so far
abbrev pub invariant-loop-sid : goal.invariant-loop-sid
invariant-loop-sid l = All (λ (sid : SidValue). holds (first_holder l.a) sid ≡ holds (first_holder l.b) sid)
    (take l.sid-index l.named)
