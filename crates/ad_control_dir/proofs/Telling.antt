-- What is told of chains, in one direction or the other.
use Rattle.std.proofs.Common.{ℕ, Bool, true, false, Option, List}
use Rattle.ad_dir_model.specs.Directory.{Directory}
use Rattle.ad_chains.specs.declared.ways.Way.{Way}
use Rattle.ad_control_graph.specs.declared.kind.Kind.{Kind}
use Rattle.ad_control_graph.specs.declared.node.Node.{Node}
use Rattle.ad_control_lines.specs.Steps.{AreSteps}
use Rattle.ad_control_lines.proofs.Chained.{steps_to, steps_from}
use Rattle.ad_control_dir.specs.Control.{AreChains}

pub steps_of : (back : Bool) (dir : Directory) (nodes : List Node) (kinds : List Kind) (place : ℕ)
    (ways : List (Option Way)) → AreChains back dir nodes kinds place ways → AreSteps back dir nodes kinds ways
steps_of false dir nodes kinds place ways are = steps_to dir nodes kinds place ways are
steps_of true dir nodes kinds place ways are = steps_from dir nodes kinds place ways are
