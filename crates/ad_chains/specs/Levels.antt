-- What the search knows level by level.
use Rattle.std.specs.Prelude.{◌≡◌, ℕ, ◌+◌, ◌<◌, ◌≤◌, false, List, length, Option, None, Some, slice_get}
use Rattle.std.specs.Prelude.{slice_index}
use Rattle.ad_chains.specs.declared.edge.Edge.{Edge}
use Rattle.ad_chains.specs.declared.link.Link.{Link}
use Rattle.ad_chains.specs.Chain.{cost, link_at, Follows}

-- who is marked has the chain that the steps follow
abbrev pub IsSound : List Edge → ℕ → List (Option Link) → Type 0
IsSound edges end links = (x : ℕ) (link : Link) → link_at links x ≡ Some link → (chain : List Edge)
    × Follows edges end links x chain

-- a node is marked, with so much at most
abbrev pub IsMarked : List (Option Link) → ℕ → ℕ → Type 0
IsMarked links x most = (link : Link) × (link_at links x ≡ Some link) × (link.length ≤ most)

-- The frontier are the nodes of this length, and none is longer. Where an edge leads to a node that is nearer than the
-- frontier, it begins at a node that is marked, and with no more than the edge adds.
pub record IsLevel (edges : List Edge) (end : ℕ) (links : List (Option Link)) (frontier : List ℕ) (long : ℕ)
    : Type 0 where
  pub sound : IsSound edges end links
  pub ends : link_at links end ≡ Some (record { length = 0; step = None })
  pub low : (x : ℕ) (link : Link) → link_at links x ≡ Some link → link.length ≤ long
  pub at_frontier : (at : ℕ) → at < length frontier → (link : Link)
      × (link_at links (slice_index frontier at) ≡ Some link)
      × (link.length ≡ long)
  pub all : (x : ℕ) (link : Link) → link_at links x ≡ Some link → link.length ≡ long → (at : ℕ) × (at < length frontier)
      × (slice_index frontier at ≡ x)
  pub nearer : (place : ℕ) (edge : Edge) (link : Link) → slice_get edges place ≡ Some edge
      → link_at links edge.to ≡ Some link → link.length < long → IsMarked links edge.from (cost edge + link.length)

-- Where an edge that doesn't count leads to one of the first n nodes of the frontier, it begins at a node that is
-- marked.
abbrev pub IsClosedSoFar : List Edge → List (Option Link) → List ℕ → ℕ → Type 0
IsClosedSoFar edges links frontier n = (place : ℕ) (edge : Edge) (at : ℕ) → slice_get edges place ≡ Some edge
    → edge.counts ≡ false → at < n → slice_index frontier at ≡ edge.to → (link : Link)
    × (link_at links edge.from ≡ Some link)

-- a level whose frontier is whole
pub record IsClosed (edges : List Edge) (end : ℕ) (links : List (Option Link)) (frontier : List ℕ) (long : ℕ)
    : Type 0 where
  pub level : IsLevel edges end links frontier long
  pub closed : IsClosedSoFar edges links frontier (length frontier)
