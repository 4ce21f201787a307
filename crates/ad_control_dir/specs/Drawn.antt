-- Only for private contracts, invariants and proofs: what was drawn so far.
use Rattle.std.specs.Prelude.{◌≡◌, ℕ, ◌<◌, List}
use Rattle.ad_dir_model.specs.Directory.{Directory}
use Rattle.ad_control_graph.specs.declared.kind.Kind.{Kind}
use Rattle.ad_control_graph.specs.declared.node.Node.{Node}
use Rattle.ad_control_graph.specs.declared.graph.Graph.{Graph}
use Rattle.ad_control_graph.specs.Drawing.{IsPassIn, IsSteady}
use Rattle.ad_control.specs.Edges.{IsEdge}
use Rattle.ad_control.specs.Chains.{IsArcFrom}
use Rattle.ad_control.specs.Graph.{IsOfArc}
use Rattle.ad_control_nodes.specs.declared.ground.Ground.{Ground}
use Rattle.ad_control_nodes.specs.Ground.{IsGround}

-- A graph in which only edges are drawn, over the nodes of the directory.
pub record IsDrawing (dir : Directory) (kept : Ground) (graph : Graph) : Type 0 where
  pub steady : IsSteady graph
  pub ground : IsGround dir graph.nodes.items kept
  pub sound : (x place y : ℕ) → IsPassIn graph x place y
      → IsArcFrom dir graph.nodes.items graph.kinds.items x place y

-- all edges of a kind to an object are drawn
abbrev pub IsDrawn : Directory → Graph → Kind → ℕ → Type 0
IsDrawn dir graph kind number = (node : Node) → IsEdge dir kind node number
    → IsOfArc graph.nodes.items graph.kinds.items graph.sets.items graph.arcs.items kind node number

-- the nodes stay, and what is drawn
pub record Grows (dir : Directory) (old new : Graph) : Type 0 where
  pub nodes : new.nodes.items ≡ old.nodes.items
  pub drawn : (kind : Kind) (number : ℕ) → IsDrawn dir old kind number → IsDrawn dir new kind number
