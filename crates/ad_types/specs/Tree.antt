-- Type trees: nodes in a list, each of which names the one above it.
use Rattle.std.specs.Prelude.{◌≡◌, ℕ, zero, suc, ◌+◌, Bool, true, false, not, ◌&&◌, ◌==◌, nat_lt, if◌then◌else◌}
use Rattle.std.specs.Prelude.{Option, None, Some, List, [], ◌∷◌, ◌++◌, length}
use Rattle.std.specs.List.{slice_get, list_any}
use Rattle.std.specs.Option.{option_map_or}
use Rattle.ad_ids.specs.declared.guid.Guid.{Guid}
use Rattle.ad_types.specs.declared.type_tree.Node.{Node}

-- what stands above the node at a place: nothing above the first node alone, and an earlier node above any other
abbrev pub is_above : Option ℕ → ℕ → Bool
is_above None place = place == 0
is_above (Some above) place = nat_lt above place

-- the nodes from this place on name what stands above them
unfoldable pub are_below : ℕ → List Node → Bool
are_below place [] = true
are_below place (node ∷ others) = is_above node.above place && are_below (place + 1) others

-- there is a root, and what stands above each node is earlier
abbrev pub is_tree : List Node → Bool
is_tree nodes = not (length nodes == 0) && are_below 0 nodes

-- The GUIDs from the root down to the node at a place, with no more than so many nodes on the way. Nothing leads to
-- no place.
unfoldable pub path_down : ℕ → List Node → Option ℕ → List Guid
path_down zero nodes place = []
path_down (suc levels) nodes None = []
path_down (suc levels) nodes (Some place)
    = option_map_or (λ (node : Node). path_down levels nodes node.above ++ node.guid ∷ []) (slice_get nodes place) []

-- the GUIDs from the root down to the node at a place
abbrev pub path_at : List Node → ℕ → List Guid
path_at nodes place = path_down (length nodes) nodes (Some place)

-- the node stands directly below the place
abbrev pub names : Option ℕ → ℕ → Bool
names None place = false
names (Some above) place = above == place

-- the places from this one on of the nodes that stand directly below a place
unfoldable pub children_from : ℕ → List Node → ℕ → List ℕ
children_from at [] place = []
children_from at (node ∷ others) place = if names node.above place then at ∷ children_from (at + 1) others place
    else children_from (at + 1) others place

-- the places of the node's children, in order
abbrev pub children : List Node → ℕ → List ℕ
children nodes place = children_from 0 nodes place

-- no node stands below it
abbrev pub is_leaf : List Node → ℕ → Bool
is_leaf nodes place = length (children nodes place) == 0

-- ---- without a number of levels

-- the path of what stands above a node
abbrev pub path_above : List Node → Option ℕ → List Guid
path_above nodes None = []
path_above nodes (Some above) = path_at nodes above

-- A node's path is that of what stands above it, and then its own GUID; the places of its children are those of the
-- later nodes that name it; and it is a leaf where no node does.
pub record IsPlaced (nodes : List Node) (place : ℕ) (node : Node) : Type 0 where
  pub path : path_at nodes place ≡ path_above nodes node.above ++ node.guid ∷ []
  pub child : (at : ℕ) (other : Node) → slice_get nodes at ≡ Some other → list_any (λ x. x == at)
      (children nodes place) ≡ names other.above place
  pub leaf : ((at : ℕ) (other : Node) → slice_get nodes at ≡ Some other → names other.above place ≡ false)
      → is_leaf nodes place ≡ true
