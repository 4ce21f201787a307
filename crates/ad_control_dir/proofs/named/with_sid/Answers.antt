use Rattle.std.proofs.Common.{sym}
use Rattle.ad_control_dir.proofs.Naming.{live_with}
use Rattle.ad_control_dir.proofs.named.with_sid.Goals as goal

pub returns-in-Some-clause-node : goal.returns-in-Some-clause-node
returns-in-Some-clause-node c =
    live_with c.args.dir.now c.args.sid.now c.in-Some.number c.invariants.ensures (sym c.in-Some.ensures)
