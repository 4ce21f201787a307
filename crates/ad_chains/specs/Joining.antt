-- Arcs as edges: the sets stand after the nodes.
use Rattle.std.specs.Prelude.{◌≡◌, ℕ, ◌+◌, ◌<◌, Bool, false, if◌then◌else◌, List, [], ◌∷◌, ◌++◌, map, length}
use Rattle.std.specs.Prelude.{Option, None, Some, slice_get, slice_index_or, unwrap_or}
use Rattle.std.specs.Option.{option_map}
use Rattle.std.specs.Global.{Vec}
use Rattle.ad_chains.specs.declared.edge.Edge.{Edge}
use Rattle.ad_chains.specs.declared.link.Link.{Link}
use Rattle.ad_chains.specs.declared.arc.Arc.{Arc}
use Rattle.ad_chains.specs.declared.ways.Pass.{Pass}
use Rattle.ad_chains.specs.declared.ways.Way.{Way}
use Rattle.ad_chains.specs.Chain.{link_at}

-- ---- the edges

-- from the set of an arc to its end
abbrev pub arc_edge : ℕ → Arc → Edge
arc_edge count arc = record { from = count + arc.set; to = arc.to; counts = arc.counts }

-- from a member to a set
abbrev pub member_edge : ℕ → ℕ → Edge
member_edge node x = record { from = x; to = node; counts = false }

-- from all members of these sets, whose nodes begin with this one
abbrev pub member_edges : ℕ → List (Vec ℕ) → List Edge
member_edges node [] = []
member_edges node (members ∷ sets) = map (member_edge node) members.items ++ member_edges (node + 1) sets

-- those of the arcs, each at the place of its arc, and then those of the members
abbrev pub edges_for : ℕ → List (Vec ℕ) → List Arc → List Edge
edges_for count sets arcs = map (arc_edge count) arcs ++ member_edges count sets

-- the sets of the arcs are among so many
abbrev pub AreSetsWithin : ℕ → List Arc → Type 0
AreSetsWithin sets arcs = (place : ℕ) (arc : Arc) → slice_get arcs place ≡ Some arc → arc.set < sets

-- ---- the ways that links say

-- the edge at a place
abbrev pub edge_at : List Edge → ℕ → Edge
edge_at edges place = slice_index_or edges place (record { from = 0; to = 0; counts = false })

-- where an edge goes on: to its end, or back to where it begins
abbrev pub far : Bool → Edge → ℕ
far back edge = if back then edge.from else edge.to

-- the place that a link says
abbrev pub step_in : Option Link → ℕ
step_in None = 0
step_in (Some link) = unwrap_or link.step 0

-- it says one
abbrev pub HasStep : Option Link → Type 0
HasStep None = ⊥
HasStep (Some link) = (place : ℕ) × (link.step ≡ Some place)

-- the edge that leads on from the set to which an edge leads
abbrev pub step_after : Bool → List (Option Link) → List Edge → ℕ → ℕ
step_after back links edges place = step_in (link_at links (far back (edge_at edges place)))

-- The two edges as an arc: the second is the arc's, or backwards the first.
abbrev pub pass_seen : Bool → List (Option Link) → List Edge → ℕ → Pass
pass_seen back links edges place = record {
  arc = if back then place else step_after back links edges place;
  next = far back (edge_at edges (step_after back links edges place));
}

abbrev pub way_seen : Bool → List (Option Link) → List Edge → Link → Way
way_seen back links edges link =
    record { length = link.length; first = option_map (pass_seen back links edges) link.step }

-- The edge and the one after it are there.
pub record IsReadable (back : Bool) (links : List (Option Link)) (edges : List Edge) (place : ℕ) : Type 0 where
  pub there : place < length edges
  pub set : far back (edge_at edges place) < length links
  pub step : HasStep (link_at links (far back (edge_at edges place)))
  pub after : step_after back links edges place < length edges

abbrev pub CanRead : Bool → List (Option Link) → List Edge → Option ℕ → Type 0
CanRead back links edges None = Unit {0}
CanRead back links edges (Some place) = IsReadable back links edges place

-- all of the first nodes can be read
abbrev pub AreReadable : Bool → List (Option Link) → List Edge → ℕ → Type 0
AreReadable back links edges count = (x : ℕ) (link : Link) → x < count → link_at links x ≡ Some link
    → CanRead back links edges link.step
