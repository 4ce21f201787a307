-- Chains of edges, and what is told of them.
use Rattle.std.specs.Prelude.{◌≡◌, ℕ, ◌+◌, ◌≤◌, Option, Some, None, List, [], ◌∷◌, slice_get}
use Rattle.std.specs.Option.{option_map_or}
use Rattle.ad_dir_model.specs.Directory.{Directory}
use Rattle.ad_chains.specs.declared.ways.Pass.{Pass}
use Rattle.ad_chains.specs.declared.ways.Way.{Way}
use Rattle.ad_chains.specs.Ways.{way_at}
use Rattle.ad_control_graph.specs.declared.kind.Kind.{Kind}
use Rattle.ad_control_graph.specs.declared.node.Node.{Node}
use Rattle.ad_control_graph.specs.declared.node.Node.TheVariants.{Object}
use Rattle.ad_control_graph.specs.Kinds.{cost}
use Rattle.ad_control.specs.Edges.{IsEdge}

-- ---- chains

-- a step of a chain: an edge of a kind to an object
pub record Step : Type 0 where
  pub kind : Kind
  pub to : ℕ

-- A chain leads from a node to another: each step is an edge, which begins where the one before ends.
abbrev pub IsChain : Directory → Node → List Step → Node → Type 0
IsChain dir node [] end = node ≡ end
IsChain dir node (step ∷ steps) end = IsEdge dir step.kind node step.to × IsChain dir (Object step.to) steps end

-- how long a chain is: how many of its steps count
abbrev pub length_of : List Step → ℕ
length_of [] = 0
length_of (step ∷ steps) = cost step.kind + length_of steps

-- ---- what is told

-- An arc is an edge: from the node at a place, of the kind of the arc, to the object at another place.
pub record IsArcFrom (dir : Directory) (nodes : List Node) (kinds : List Kind) (x place y : ℕ) : Type 0 where
  pub node : Node
  pub is_node : slice_get nodes x ≡ Some node
  pub number : ℕ
  pub is_object : slice_get nodes y ≡ Some (Object number)
  pub kind : Kind
  pub is_kind : slice_get kinds place ≡ Some kind
  pub is_edge : IsEdge dir kind node number

-- how many of these arcs count
abbrev pub arcs_length : List Kind → List Pass → ℕ
arcs_length kinds [] = 0
arcs_length kinds (pass ∷ passes) = option_map_or cost (slice_get kinds pass.arc) 0 + arcs_length kinds passes

-- From a node the arcs that are told lead to the end, and of each node on the way the length of the rest is told.
abbrev pub LeadsTo : Directory → List Node → List Kind → ℕ → List (Option Way) → ℕ → List Pass → Type 0
LeadsTo dir nodes kinds end ways x [] = (x ≡ end) × (way_at ways x ≡ Some (record { length = 0; first = None }))
LeadsTo dir nodes kinds end ways x (pass ∷ passes) =
    IsArcFrom dir nodes kinds x pass.arc pass.next
    × (way_at ways x ≡ Some (record { length = arcs_length kinds (pass ∷ passes); first = Some pass }))
    × LeadsTo dir nodes kinds end ways pass.next passes

-- backwards, by the last arcs
abbrev pub ComesFrom : Directory → List Node → List Kind → ℕ → List (Option Way) → ℕ → List Pass → Type 0
ComesFrom dir nodes kinds start ways y [] =
    (y ≡ start) × (way_at ways y ≡ Some (record { length = 0; first = None }))
ComesFrom dir nodes kinds start ways y (pass ∷ passes) =
    IsArcFrom dir nodes kinds pass.next pass.arc y
    × (way_at ways y ≡ Some (record { length = arcs_length kinds (pass ∷ passes); first = Some pass }))
    × ComesFrom dir nodes kinds start ways pass.next passes

-- the node is told so
pub record IsToldOf (nodes : List Node) (ways : List (Option Way)) (node : Node) (way : Way) : Type 0 where
  pub place : ℕ
  pub is_node : slice_get nodes place ≡ Some node
  pub is_way : way_at ways place ≡ Some way

-- Who comes to control the end: who is told has a chain, by the arcs that are told; who has a chain is told, and no
-- chain is shorter.
pub record AreControlling (dir : Directory) (nodes : List Node) (kinds : List Kind) (end : ℕ) (ways : List (Option Way))
    : Type 0 where
  pub told : (x : ℕ) (way : Way) → way_at ways x ≡ Some way → (passes : List Pass)
      × LeadsTo dir nodes kinds end ways x passes
  pub least : (node last : Node) (steps : List Step) → slice_get nodes end ≡ Some last → IsChain dir node steps last
      → (way : Way) × IsToldOf nodes ways node way × (way.length ≤ length_of steps)

-- What the start comes to control: the same of chains that lead from it.
pub record AreReached (dir : Directory) (nodes : List Node) (kinds : List Kind) (start : ℕ) (ways : List (Option Way))
    : Type 0 where
  pub told : (y : ℕ) (way : Way) → way_at ways y ≡ Some way → (passes : List Pass)
      × ComesFrom dir nodes kinds start ways y passes
  pub least : (first node : Node) (steps : List Step) → slice_get nodes start ≡ Some first
      → IsChain dir first steps node → (way : Way) × IsToldOf nodes ways node way × (way.length ≤ length_of steps)
