use Rattle.ad_control_nodes.proofs.Standing.{are_nodes}
use Rattle.ad_control_nodes.proofs.ground.are_nodes.Goals as goal

pub returns : goal.returns
returns c = are_nodes c.args.dir.now c.args.nodes.now c.invariants.ensures.rise c.requires
