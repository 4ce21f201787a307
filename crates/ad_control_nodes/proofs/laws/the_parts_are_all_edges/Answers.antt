use Rattle.ad_control_nodes.proofs.Parting.{part_of, edge_of}
use Rattle.ad_control_nodes.proofs.laws.the_parts_are_all_edges.Goals as goal

pub returns-clause-parts : goal.returns-clause-parts
returns-clause-parts c = part_of

pub returns-clause-edges : goal.returns-clause-edges
returns-clause-edges c = edge_of
