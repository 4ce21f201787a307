-- Chains of edges, how long they are, and what is told of each node.
use Rattle.std.specs.Prelude.{◌≡◌, ℕ, ◌+◌, ◌≤◌, true, Bool, if◌then◌else◌, List, [], ◌∷◌, ◌++◌, map, Option, None, Some}
use Rattle.std.specs.Prelude.{slice_get, slice_index_or}
use Rattle.ad_chains.specs.declared.edge.Edge.{Edge}
use Rattle.ad_chains.specs.declared.link.Link.{Link}

-- ---- chains

-- what an edge adds to the length of a chain
abbrev pub cost : Edge → ℕ
cost edge = if edge.counts then 1 else 0

-- how long a chain is: how many of its edges count
abbrev pub length_of : List Edge → ℕ
length_of [] = 0
length_of (edge ∷ chain) = cost edge + length_of chain

-- it is one of these edges
abbrev pub IsEdge : List Edge → Edge → Type 0
IsEdge edges edge = (place : ℕ) × (slice_get edges place ≡ Some edge)

-- A chain leads from a node to another: its edges are of the graph, and each begins where the one before ends.
abbrev pub IsChain : List Edge → ℕ → List Edge → ℕ → Type 0
IsChain edges x [] y = x ≡ y
IsChain edges x (edge ∷ chain) y = IsEdge edges edge × (edge.from ≡ x) × IsChain edges edge.to chain y

-- ---- what is told

-- what is told of a node
abbrev pub link_at : List (Option Link) → ℕ → Option Link
link_at links x = slice_index_or links x None

-- From a node the steps lead to the end by this chain, and of each node on it the length of the rest is told.
abbrev pub Follows : List Edge → ℕ → List (Option Link) → ℕ → List Edge → Type 0
Follows edges end links x [] = (x ≡ end) × (link_at links x ≡ Some (record { length = 0; step = None }))
Follows edges end links x (edge ∷ chain) =
    (place : ℕ) × (slice_get edges place ≡ Some edge) × (edge.from ≡ x)
    × (link_at links x ≡ Some (record { length = length_of (edge ∷ chain); step = Some place }))
    × Follows edges end links edge.to chain

-- Who is told has a chain, which the steps follow. Who has a chain is told, and no chain is shorter.
pub record AreChainsTo (edges : List Edge) (end : ℕ) (links : List (Option Link)) : Type 0 where
  pub told : (x : ℕ) (link : Link) → link_at links x ≡ Some link → (chain : List Edge) × Follows edges end links x chain
  pub least : (x : ℕ) (chain : List Edge) → IsChain edges x chain end → (link : Link) × (link_at links x ≡ Some link)
      × (link.length ≤ length_of chain)

-- ---- the other direction

-- the edge turned round
abbrev pub turned : Edge → Edge
turned edge = record { from = edge.to; to = edge.from; counts = edge.counts }

-- a chain backwards, each edge turned round
abbrev pub turned_back : List Edge → List Edge
turned_back [] = []
turned_back (edge ∷ chain) = turned_back chain ++ turned edge ∷ []

-- the same of chains that lead from a node: of the edges turned round, those that lead to it
abbrev pub AreChainsFrom : List Edge → ℕ → List (Option Link) → Type 0
AreChainsFrom edges start links = AreChainsTo (map turned edges) start links

-- ---- the least set

-- The set has the node, and with the end of an edge also where the edge begins.
pub record IsClosedSet (edges : List Edge) (end : ℕ) (set : ℕ → Bool) : Type 0 where
  pub has : set end ≡ true
  pub goes_on : (edge : Edge) → IsEdge edges edge → set edge.to ≡ true → set edge.from ≡ true
