-- When a right is granted at the nodes of a type tree.
use Rattle.std.specs.Prelude.{ℕ, zero, suc, Bool, false, Option, List, length, if◌then◌else◌}
use Rattle.std.specs.List.{list_all}
use Rattle.ad_ids.specs.SidValue.{SidValue}
use Rattle.ad_ids.specs.declared.guid.Guid.{Guid}
use Rattle.ad_ids.specs.declared.token.Token.{Token}
use Rattle.ad_sd.specs.declared.parts.Sd.{Sd}
use Rattle.ad_types.specs.declared.type_tree.Node.{Node}
use Rattle.ad_types.specs.Tree.{path_at, children, is_leaf}
use Rattle.ad_access.specs.Grant.{granted}

-- What `grants` says of paths, at a node with no more than so many levels from it down: a leaf is granted where the
-- GUIDs from the root down to it are, an inner node where all its children are.
unfoldable pub granted_down : ℕ → List Node → (List Guid → Bool) → ℕ → Bool
granted_down zero nodes grants place = false
granted_down (suc levels) nodes grants place =
    if is_leaf nodes place then grants (path_at nodes place) else list_all (granted_down levels nodes grants)
    (children nodes place)

-- A tree has no more levels than nodes.
abbrev pub granted_at_node : List Node → (List Guid → Bool) → ℕ → Bool
granted_at_node nodes grants place = granted_down (length nodes) nodes grants place

-- the right is granted to the token at the node at a place
abbrev pub node_granted : Sd → Token → Option SidValue → List Node → ℕ → ℕ → Bool
node_granted sd token self nodes place bit
    = granted_at_node nodes (λ (path : List Guid). granted sd.owner sd.dacl.entries token self path bit) place
