-- A graph that is drawn arc by arc: what is added, from which nodes, of which kind, to which node.
use Rattle.std.specs.Prelude.{◌≡◌, ◌⊎◌, ℕ, ◌<◌, ◌≤◌, Bool, true, Some, List, [], ◌∷◌, length, slice_get}
use Rattle.ad_chains.specs.declared.arc.Arc.{Arc}
use Rattle.ad_chains.specs.Ways.{members_at, IsMember, IsPass, arc_cost, AreMembersWithin, AreArcsWithin}
use Rattle.ad_control_graph.specs.declared.kind.Kind.{Kind}
use Rattle.ad_control_graph.specs.declared.node.Node.{Node}
use Rattle.ad_control_graph.specs.declared.graph.Graph.{Graph}
use Rattle.ad_control_graph.specs.Kinds.{cost}

-- ---- passes

-- The arc at a place leads from a node to another.
abbrev pub IsPassIn : Graph → ℕ → ℕ → ℕ → Type 0
IsPassIn graph x place y = IsPass graph.sets.items graph.arcs.items x place y

-- the arc at a place is of the kind
abbrev pub IsKindAt : Graph → ℕ → Kind → Type 0
IsKindAt graph place kind = slice_get graph.kinds.items place ≡ Some kind

-- an arc of the kind leads from a node to another
pub record IsLed (graph : Graph) (kind : Kind) (x y : ℕ) : Type 0 where
  pub place : ℕ
  pub pass : IsPassIn graph x place y
  pub is_kind : IsKindAt graph place kind

-- ---- what holds of each graph that is drawn

-- Each arc has a kind, and counts as that does; what it names is there. The first sets are those of each single node.
pub record IsSteady (graph : Graph) : Type 0 where
  pub ready : length graph.nodes.items ≤ length graph.sets.items
  pub lone : (x : ℕ) → x < length graph.nodes.items → members_at graph.sets.items x ≡ x ∷ []
  pub kinds : length graph.kinds.items ≡ length graph.arcs.items
  pub members : AreMembersWithin (length graph.nodes.items) graph.sets.items
  pub ends : AreArcsWithin (length graph.nodes.items) (length graph.sets.items) graph.arcs.items
  pub counts : (place : ℕ) (arc : Arc) (kind : Kind) → slice_get graph.arcs.items place ≡ Some arc
      → IsKindAt graph place kind → arc_cost arc ≡ cost kind

-- it is drawn over these nodes
pub record IsOver (all : List Node) (graph : Graph) : Type 0 where
  pub nodes : graph.nodes.items ≡ all
  pub steady : IsSteady graph

-- ---- what is added

-- What there was stays. What comes are arcs of one kind to one node, from exactly these nodes.
pub record Adds (old new : Graph) (kind : Kind) (to : ℕ) (From : ℕ → Type 0) : Type 0 where
  pub keeps : (x place y : ℕ) → IsPassIn old x place y → IsPassIn new x place y
  pub kinds : (place : ℕ) (k : Kind) → IsKindAt old place k → IsKindAt new place k
  pub only : (x place y : ℕ) → IsPassIn new x place y
      → IsPassIn old x place y ⊎ (IsKindAt new place kind × (y ≡ to) × From x)
  pub all : (x : ℕ) → From x → IsLed new kind x to

-- the sets that there were stay, and have the same nodes
pub record KeepsSets (old new : Graph) : Type 0 where
  pub sets : (set x : ℕ) → set < length old.sets.items → IsMember old.sets.items set x → IsMember new.sets.items set x
  pub only : (set x : ℕ) → set < length old.sets.items → IsMember new.sets.items set x → IsMember old.sets.items set x
  pub more : (set : ℕ) → set < length old.sets.items → set < length new.sets.items

-- only sets were added, from which no arc leads yet
pub record Readies (old new : Graph) : Type 0 where
  pub nodes : new.nodes.items ≡ old.nodes.items
  pub arcs : new.arcs.items ≡ old.arcs.items
  pub kinds : new.kinds.items ≡ old.kinds.items
  pub keeps : KeepsSets old new

-- ---- sets of nodes

-- the set at a place has exactly these nodes
pub record IsSetOf (graph : Graph) (set : ℕ) (From : ℕ → Type 0) : Type 0 where
  pub there : set < length graph.sets.items
  pub only : (x : ℕ) → IsMember graph.sets.items set x → From x
  pub all : (x : ℕ) → From x → IsMember graph.sets.items set x

-- the node stands in a list
abbrev pub IsIn : List ℕ → ℕ → Type 0
IsIn list x = (place : ℕ) × (slice_get list place ≡ Some x)

-- all of a list are below a number
abbrev pub AreBelow : ℕ → List ℕ → Type 0
AreBelow count list = (place x : ℕ) → slice_get list place ≡ Some x → x < count

-- Of a list of things each at a node: the node is that of one of which the test holds.
pub record IsBy {A : Type 0} (things : List A) (at : List ℕ) (test : A → Bool) (x : ℕ) : Type 0 where
  pub place : ℕ
  pub thing : A
  pub is_thing : slice_get things place ≡ Some thing
  pub is_at : slice_get at place ≡ Some x
  pub passes : test thing ≡ true
