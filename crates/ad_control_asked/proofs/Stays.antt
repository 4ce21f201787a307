-- What is kept while objects are asked stays right where only other arcs and sets come.
use Rattle.std.proofs.Common.{◌<◌, ℕ, List, length, sym, subst}
use Rattle.ad_dir_model.specs.Directory.{Directory}
use Rattle.ad_sets.specs.Sets.{sets_of}
use Rattle.ad_control_graph.specs.declared.node.Node.{Node}
use Rattle.ad_control_graph.specs.declared.graph.Graph.{Graph}
use Rattle.ad_control_graph.specs.Drawing.{IsSteady, IsOver, KeepsSets}
use Rattle.ad_control_nodes.specs.declared.ground.Ground.{Ground}
use Rattle.ad_control_nodes.specs.Ground.{IsGround}
use Rattle.ad_control_asked.specs.declared.judging.Judging.{Judging}
use Rattle.ad_control_asked.specs.Asked.{IsJudging}
use Rattle.ad_control_asked.proofs.DrawnLaws.{over_same, drawn_stays}

pub judging_stays : (dir : Directory) (ground : Ground) (old new : Graph) (judging : Judging) → KeepsSets old new
    → IsJudging dir ground old judging → IsJudging dir ground new judging
judging_stays dir ground old new judging keeps is = record {
  judged = is.judged;
  ends = is.ends;
  drawn = drawn_stays (sets_of judging.judged.sets) ground.at.items old new judging.drawn keeps is.drawn;
}

-- and its ground is the same
pub ground_stays : (dir : Directory) (ground : Ground) (old new : Graph)
    → ((nodes : List Node) → IsOver nodes old → IsOver nodes new) → IsSteady old → IsGround dir old.nodes.items ground
    → IsGround dir new.nodes.items ground
ground_stays dir ground old new over steady is =
    subst (λ (nodes : List Node). IsGround dir nodes ground) (sym (over_same old new over steady).nodes) is

pub steady_stays : (old new : Graph) → ((nodes : List Node) → IsOver nodes old → IsOver nodes new) → IsSteady old
    → IsSteady new
steady_stays old new over steady = (over_same old new over steady).steady

pub end_stays : (old new : Graph) (to : ℕ) → ((nodes : List Node) → IsOver nodes old → IsOver nodes new)
    → IsSteady old → to < length old.nodes.items → to < length new.nodes.items
end_stays old new to over steady lt =
    subst (λ (nodes : List Node). to < length nodes) (sym (over_same old new over steady).nodes) lt
