use Rattle.std.proofs.Common.{sym}
use Rattle.ad_control_graph.proofs.SetLaws.{keeps_same, readies_same}
use Rattle.ad_control_linked.proofs.policies.policies_set.Goals as goal

pub returns-in-Some-clause-sets : goal.returns-in-Some-clause-sets
returns-in-Some-clause-sets c = keeps_same c.args.graph.now

pub returns-in-Some-clause-readies : goal.returns-in-Some-clause-readies
returns-in-Some-clause-readies c = readies_same c.args.graph.now

pub returns-in-Some-clause-set : goal.returns-in-Some-clause-set
returns-in-Some-clause-set c =
    c.requires.links c.parent_of-parent.result c.in-Some.set c.args.number (sym c.in-Some.ensures) c.requires.below
    (sym c.parent_of-parent.ensures.parent)
