use Rattle.std.proofs.Common.{◌-◌, ◌≤◌, ◌≡◌, length, take, drop, IfSome}
use Rattle.site_io.specs.Disk.{at_slot}
use Rattle.site_io.specs.Outside.{OnlyLooks}
use Rattle.site_io.proofs.filling.read_full.Given as goal

-- what came so far is what stands at the offset
abbrev pub invariant-loop-n : goal.invariant-loop-n
invariant-loop-n g l =
    let s = g.S.Site in
    record {
      came : IfSome (s.reads l.fn.site) (λ held. take l.n l.into ≡ take l.n (drop l.at (at_slot l.slot held)));
      within : l.n ≤ length l.into;
      outside : OnlyLooks s l.fn.site l.site;
    }

abbrev pub decreases-loop-n : goal.decreases-loop-n
decreases-loop-n g l = length l.initial.into - l.n
