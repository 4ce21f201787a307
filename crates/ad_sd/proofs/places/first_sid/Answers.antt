use Rattle.std.proofs.Common.{sym}
use Rattle.ad_sd.proofs.SidHere.{sid_here, no_fault_here}
use Rattle.ad_sd.proofs.places.first_sid.Goals as goal

pub unreachable-requires : goal.unreachable-requires
unreachable-requires c = no_fault_here c.args.bytes.now c.new-input.result c.in-Err.field-0 c.new-input.ensures
    c.in-Err.ensures.read c.requires

pub returns : goal.returns
returns c = sym (sid_here c.args.bytes.now c.new-input.result c.read.new.input c.in-Ok.sid c.new-input.ensures
    c.in-Ok.ensures.read)
