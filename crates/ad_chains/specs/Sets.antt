-- Sets as nodes. From a number on the nodes are sets: edges lead from members to a set, and from the set to what its
-- members come to, so that these needn't be joined pair by pair.
use Rattle.std.specs.Prelude.{◌≡◌, ℕ, ◌<◌, ◌≤◌, List, [], ◌∷◌}
use Rattle.ad_chains.specs.declared.edge.Edge.{Edge}
use Rattle.ad_chains.specs.Chain.{IsEdge}

-- The nodes from this number on are sets, and no edge leads from a set to a set.
abbrev pub AreSetsFrom : ℕ → List Edge → Type 0
AreSetsFrom first edges = (edge : Edge) → IsEdge edges edge → first ≤ edge.from → edge.to < first

-- From a node that is no set to the next such node: by an edge, or by two and the set between them.
pub data Passage : Type 0 where
  Direct : Edge → Passage
  BySet : Edge → Edge → Passage

abbrev pub IsPassage : List Edge → ℕ → ℕ → Passage → ℕ → Type 0
IsPassage edges first x (Direct edge) y = IsEdge edges edge × (edge.from ≡ x) × (edge.to ≡ y)
IsPassage edges first x (BySet into out) y = IsEdge edges into × IsEdge edges out × (into.from ≡ x) × (first ≤ into.to)
    × (out.from ≡ into.to) × (out.to ≡ y)

-- passages one after the other, over nodes that are no sets
abbrev pub Passes : List Edge → ℕ → ℕ → List Passage → ℕ → Type 0
Passes edges first x [] y = x ≡ y
Passes edges first x (passage ∷ passages) y = (z : ℕ) × (z < first) × IsPassage edges first x passage z
    × Passes edges first z passages y

-- their edges
abbrev pub edges_of : List Passage → List Edge
edges_of [] = []
edges_of (Direct edge ∷ passages) = edge ∷ edges_of passages
edges_of (BySet into out ∷ passages) = into ∷ out ∷ edges_of passages
