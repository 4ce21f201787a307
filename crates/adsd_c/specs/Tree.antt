-- Trees of object types that are given by levels.
use Rattle.std.specs.Prelude.{ℕ, zero, suc, nat_lt, ◌==◌, if◌then◌else◌, Option, None, Some}
use Rattle.std.specs.Prelude.{List, [], ◌∷◌, ◌++◌, length, take, slice_index_or, Result, Ok, Err}
use Rattle.ad_bytes.specs.Reading.{◌>>=◌, need}
use Rattle.ad_types.specs.declared.type_tree.Node.{Node}
use Rattle.ad_types.specs.Tree.{is_tree}
use Rattle.adsd_c.specs.declared.refusal.Refusal.{Refusal}
use Rattle.adsd_c.specs.declared.refusal.Refusal.TheVariants as refusal
use Rattle.adsd_c.specs.declared.tree.TypeNode.{TypeNode}

-- What stands above a node of a level, where `chain` has the places of the nodes from the root down to the one
-- before it: the node one level higher. At level 0 nothing does, and only the first node is there. A level may be
-- one more than that of the node before it, and no more.
abbrev pub above_at : List ℕ → ℕ → Result (Option ℕ) Refusal
above_at chain zero = if length chain == 0 then Ok None else Err refusal.Tree
above_at chain (suc level) =
    if nat_lt level (length chain) then Ok (Some (slice_index_or chain level 0)) else Err refusal.Tree

-- the node that is given so, below that
abbrev pub node_below : TypeNode → Option ℕ → Node
node_below next above = record { guid = record { bytes = next.guid }; above = above }

-- the chain down to a node at a place
abbrev pub chain_to : List ℕ → ℕ → ℕ → List ℕ
chain_to chain level place = take level chain ++ place ∷ []

-- the nodes so far, and those that are given after them
unfoldable pub placed : List ℕ → List Node → List TypeNode → Result (List Node) Refusal
placed chain done [] = Ok done
placed chain done (next ∷ others) = do
  above ← above_at chain next.level
  placed (chain_to chain next.level (length done)) (done ++ node_below next above ∷ []) others

-- the nodes that are given, of which there is one at least
unfoldable pub nodes_of : List TypeNode → Result (List Node) Refusal
nodes_of given = do
  nodes ← placed [] [] given
  _ ← need (is_tree nodes) refusal.Tree
  Ok nodes
