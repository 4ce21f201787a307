use Rattle.std.proofs.Common.{◌≡◌, ◌-◌, ◌≤◌, ◌++◌, length, take}
use Rattle.site_io.specs.Told.{BothTold}
use Rattle.ad_frames.proofs.filling.fill_within.Given as goal

-- what came so far, before what is left, is the input
abbrev pub invariant-loop-n : goal.invariant-loop-n
invariant-loop-n g l =
    let rest = g.I.Source.rest in
    let faults = g.I.Source.faults in
    record {
      told : BothTold (rest l.fn.source) (rest l.source) (λ before after. before ≡ take l.n l.into ++ after);
      within : l.n ≤ length l.into;
      never_falls : faults l.fn.source ≤ faults l.source;
    }

abbrev pub decreases-loop-n : goal.decreases-loop-n
decreases-loop-n g l = length l.initial.into - l.n
