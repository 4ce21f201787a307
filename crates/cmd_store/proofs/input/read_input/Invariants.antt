use Rattle.std.proofs.Common.{vec_len, ◌+◌, ◌-◌, ◌<◌, ◌≤◌}
use Rattle.ad_load_records.specs.Records.{max_text}
use Rattle.cmd_store.specs.Input.{HasCome}
use Rattle.cmd_store.proofs.input.read_input.Given as goal

-- what came so far
abbrev pub invariant-loop-n : goal.invariant-loop-n
invariant-loop-n g l =
    let rest = g.I.Source.rest in
    let faults = g.I.Source.faults in
    record {
      came : HasCome (rest l.fn.source) (rest l.source) l.pieces;
      never_falls : faults l.fn.source ≤ faults l.source;
      room : 0 < vec_len l.chunk;
    }

abbrev pub decreases-loop-n : goal.decreases-loop-n
decreases-loop-n g l = max_text + 1 - l.pieces.count
