-- The nodes of a tree, one after the other.
use Rattle.std.proofs.Common.{◌≡◌, ℕ, ◌+◌, ◌<◌, ◌≤◌, Option, List, [], ◌∷◌, ◌++◌, length, drop, get_or, drop-cons}
use Rattle.std.proofs.Common.{add-one, Ok, Err, refl, sym, ap, ◌∙◌}
use Rattle.std.proofs.lemmas.List.{drop_all}
use Rattle.ad_types.specs.declared.type_tree.Node.{Node}
use Rattle.adsd_c.specs.declared.refusal.Refusal.{Refusal}
use Rattle.adsd_c.specs.declared.tree.TypeNode.{TypeNode}
use Rattle.adsd_c.specs.Tree.{above_at, node_below, chain_to, placed}

abbrev pub blank : TypeNode
blank = record { level = 0; guid = [] }

next_of : (given : List TypeNode) (i : ℕ) → i < length given → drop i given ≡ get_or given i blank ∷ drop (i + 1) given
next_of given i there = drop-cons given i blank there ∙ ap (λ (n : ℕ). get_or given i blank ∷ drop n given)
    (sym (add-one i))

-- one node more
pub placed_more : (chain : List ℕ) (done : List Node) (given : List TypeNode) (i : ℕ) (above : Option ℕ) → i
    < length given
    → above_at chain (get_or given i blank).level ≡ Ok above
    → placed chain done (drop i given)
    ≡ placed (chain_to chain (get_or given i blank).level (length done))
    (done ++ node_below (get_or given i blank) above ∷ []) (drop (i + 1) given)
unfolding placed
placed_more chain done given i above there e = rw (next_of given i there, e) refl

-- a node that has no place
pub placed_stop : (chain : List ℕ) (done : List Node) (given : List TypeNode) (i : ℕ) (fault : Refusal) → i
    < length given
    → above_at chain (get_or given i blank).level ≡ Err fault → placed chain done (drop i given) ≡ Err fault
unfolding placed
placed_stop chain done given i fault there e = rw (next_of given i there, e) refl

-- no node more
pub placed_end : (chain : List ℕ) (done : List Node) (given : List TypeNode) (i : ℕ) → length given ≤ i
    → placed chain done (drop i given) ≡ Ok done
unfolding placed
placed_end chain done given i past = rw (drop_all i given past) refl
