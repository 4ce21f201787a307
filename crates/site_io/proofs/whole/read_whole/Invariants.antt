use Rattle.std.proofs.Common.{vec_len, ◌≡◌, ◌+◌, ◌-◌, ◌<◌, ◌≤◌, ◌++◌}
use Rattle.site_io.specs.Told.{BothTold}
use Rattle.site_io.proofs.whole.read_whole.Given as goal

-- what came so far, before what is left, is the input
abbrev pub invariant-loop-chunk : goal.invariant-loop-chunk
invariant-loop-chunk g l =
    let rest = g.I.Source.rest in
    let faults = g.I.Source.faults in
    record {
      told : BothTold (rest l.fn.source) (rest l.source) (λ before after. before ≡ l.whole.items ++ after);
      within : vec_len l.whole ≤ l.limit;
      never_falls : faults l.fn.source ≤ faults l.source;
      room : 0 < vec_len l.chunk;
    }

abbrev pub decreases-loop-chunk : goal.decreases-loop-chunk
decreases-loop-chunk g l = l.limit + 1 - vec_len l.whole
