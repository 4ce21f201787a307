-- A directory as sets and arcs, over which ways are found.
use Rattle.std.specs.Prelude.{◌≡◌, ℕ, ◌+◌, ◌<◌, ◌^◌, Some, List, length, slice_get}
use Rattle.std.specs.Global.{Vec}
use Rattle.ad_dir_model.specs.Directory.{Directory}
use Rattle.ad_chains.specs.declared.arc.Arc.{Arc}
use Rattle.ad_chains.specs.Ways.{IsPass, arc_cost, AreMembersWithin, AreArcsWithin}
use Rattle.ad_control_graph.specs.declared.kind.Kind.{Kind}
use Rattle.ad_control_graph.specs.declared.node.Node.{Node}
use Rattle.ad_control_graph.specs.declared.node.Node.TheVariants.{Object}
use Rattle.ad_control_graph.specs.declared.graph.Graph.{Graph}
use Rattle.ad_control.specs.Edges.{IsEdge}
use Rattle.ad_control.specs.Chains.{IsArcFrom}
use Rattle.ad_control_graph.specs.Kinds.{cost}

-- an edge is an arc's
pub record IsOfArc (nodes : List Node) (kinds : List Kind) (sets : List (Vec ℕ)) (arcs : List Arc) (kind : Kind)
    (node : Node) (number : ℕ) : Type 0 where
  pub from : ℕ
  pub is_from : slice_get nodes from ≡ Some node
  pub to : ℕ
  pub is_to : slice_get nodes to ≡ Some (Object number)
  pub place : ℕ
  pub is_kind : slice_get kinds place ≡ Some kind
  pub pass : IsPass sets arcs from place to

-- The nodes are in a list, each once. From each member of the set of an arc an edge of the arc's kind leads to its end,
-- an object; each edge is an arc's; and an arc counts as its kind does.
pub record AreArcsOf (dir : Directory) (nodes : List Node) (kinds : List Kind) (sets : List (Vec ℕ)) (arcs : List Arc)
    : Type 0 where
  pub once : (first second : ℕ) (node : Node) → slice_get nodes first ≡ Some node → slice_get nodes second ≡ Some node
      → first ≡ second
  pub sound : (x place y : ℕ) → IsPass sets arcs x place y → IsArcFrom dir nodes kinds x place y
  pub complete : (kind : Kind) (node : Node) (number : ℕ) → IsEdge dir kind node number
      → IsOfArc nodes kinds sets arcs kind node number
  pub counts : (place : ℕ) (arc : Arc) (kind : Kind) → slice_get arcs place ≡ Some arc
      → slice_get kinds place ≡ Some kind → arc_cost arc ≡ cost kind

-- the members of its sets and what its arcs name are there
pub record IsWhole (graph : Graph) : Type 0 where
  pub members : AreMembersWithin (length graph.nodes.items) graph.sets.items
  pub ends : AreArcsWithin (length graph.nodes.items) (length graph.sets.items) graph.arcs.items
  pub fits : length graph.nodes.items + length graph.sets.items < 2 ^ 64

abbrev pub IsGraphOf : Directory → Graph → Type 0
IsGraphOf dir graph = AreArcsOf dir graph.nodes.items graph.kinds.items graph.sets.items graph.arcs.items
