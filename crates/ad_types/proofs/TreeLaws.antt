-- The nodes of a tree, one after the other.
use Rattle.std.proofs.Common.{◌≡◌, ℕ, zero, suc, ◌+◌, ◌<◌, ◌≤◌, Bool, true, false, not, ◌&&◌, ◌||◌, Option, None}
use Rattle.std.proofs.Common.{Some, List, [], ◌∷◌, ◌++◌, length, get_or, drop, if◌then◌else◌, refl, sym, ap, ◌∙◌}
use Rattle.std.proofs.Common.{subst, unwrap_or, arith}
use Rattle.std.specs.Prelude.{◌==◌, slice_get}
use Rattle.std.specs.List.{list_any}
use Rattle.std.proofs.lemmas.Bool.Decides.{nat_tests}
use Rattle.std.proofs.lemmas.Bool.{and_parts, ltb-true}
use Rattle.std.proofs.lemmas.List.{drop_more, drop_all}
use Rattle.std.proofs.lemmas.Option.{slice_get-get_or, slice_get_within, get_or_from_slice_get}
use Rattle.ad_ids.specs.declared.guid.Guid.{Guid}
use Rattle.ad_types.specs.declared.type_tree.Node.{Node}
use Rattle.ad_types.specs.Tree.{is_above, are_below, is_tree, path_down, path_at, names, children_from, children}
use Rattle.ad_types.specs.Tree.{is_leaf, IsPlaced}
pub use Rattle.ad_types.specs.Tree.{path_above}

pub below_more : (nodes : List Node) (i : ℕ) (d : Node) → i < length nodes → are_below i (drop i nodes)
    ≡ is_above (get_or nodes i d).above i && are_below (i + 1) (drop (i + 1) nodes)
unfolding are_below
below_more nodes i d lt = ap (are_below i) (drop_more nodes i d lt)

pub below_all : (nodes : List Node) (i : ℕ) → length nodes ≤ i → are_below i (drop i nodes) ≡ true
unfolding are_below
below_all nodes i le = ap (are_below i) (drop_all i nodes le)

below_at : (nodes : List Node) (from i : ℕ) (d : Node) → are_below from nodes ≡ true → i < length nodes
    → is_above (get_or nodes i d).above (from + i) ≡ true
unfolding are_below
below_at [] from i d all lt = absurd (omega (arith, lt))
below_at (node ∷ others) from zero d all lt =
    let same : from ≡ from + 0 = omega arith in
    subst (λ (n : ℕ). is_above node.above n ≡ true) same
    (and_parts (is_above node.above from) (are_below (from + 1) others) all).0
below_at (node ∷ others) from (suc i) d all lt =
    let same : from + 1 + i ≡ from + suc i = omega arith in
    subst (λ (n : ℕ). is_above (get_or others i d).above n ≡ true) same
    (below_at others (from + 1) i d (and_parts (is_above node.above from) (are_below (from + 1) others) all).1
    (omega (arith, lt)))

-- what stands above a node of a tree is earlier
pub tree_at : (nodes : List Node) (i : ℕ) (d : Node) → is_tree nodes ≡ true → i < length nodes
    → is_above (get_or nodes i d).above i ≡ true
tree_at nodes i d tree lt =
    let same : 0 + i ≡ i = omega arith in
    subst (λ (n : ℕ). is_above (get_or nodes i d).above n ≡ true) same
    (below_at nodes 0 i d (and_parts (not (length nodes == 0)) (are_below 0 nodes) tree).1 lt)

nowhere : (n : ℕ) (nodes : List Node) → path_down n nodes None ≡ []
unfolding path_down
nowhere zero nodes = refl
nowhere (suc n) nodes = refl

-- With enough levels it doesn't matter how many.
same_path : (m n : ℕ) (nodes : List Node) (i : ℕ) → is_tree nodes ≡ true → i < length nodes → i < m → i < n
    → path_down m nodes (Some i) ≡ path_down n nodes (Some i)
unfolding path_down
same_path zero n nodes i tree lt a b = absurd (omega (arith, a))
same_path (suc m) zero nodes i tree lt a b = absurd (omega (arith, b))
same_path (suc m) (suc n) nodes i tree lt a b =
    let d : Node = record { guid = record { bytes = [] }; above = None } in
    rw (slice_get-get_or nodes i d lt)
    (above (get_or nodes i d) (get_or nodes i d).above (tree_at nodes i d tree lt)
    (λ j less. same_path m n nodes j tree (omega (arith, less, lt)) (omega (arith, less, a))
    (omega (arith, less, b))))
  where
    above : (node : Node) (place : Option ℕ) → is_above place i ≡ true
        → ((j : ℕ) → j < i → path_down m nodes (Some j) ≡ path_down n nodes (Some j)) → path_down m nodes place
        ++ node.guid ∷ [] ≡ path_down n nodes place ++ node.guid ∷ []
    above node None e more = ap (λ (path : List Guid). path ++ node.guid ∷ []) (nowhere m nodes ∙ sym (nowhere n nodes))
    above node (Some j) e more = ap (λ (path : List Guid). path ++ node.guid ∷ []) (more j (ltb-true j i e))

-- a node's path is that of what stands above it, and its own GUID
pub path_step : (nodes : List Node) (i : ℕ) (d : Node) → is_tree nodes ≡ true → i < length nodes → path_at nodes i
    ≡ path_above nodes (get_or nodes i d).above ++ (get_or nodes i d).guid ∷ []
unfolding path_down
path_step nodes i d tree lt =
    let node : Node = get_or nodes i d in
    let more : path_at nodes i ≡ path_down (suc (length nodes)) nodes (Some i) = same_path (length nodes)
    (suc (length nodes)) nodes i tree lt lt (omega arith) in
    let down : path_down (suc (length nodes)) nodes (Some i) ≡ path_down (length nodes) nodes node.above ++ node.guid
    ∷ [] = rw (slice_get-get_or nodes i d lt) refl in
    more ∙ down ∙ ap (λ (path : List Guid). path ++ node.guid ∷ []) (above node.above)
  where
    above : (place : Option ℕ) → path_down (length nodes) nodes place ≡ path_above nodes place
    above None = nowhere (length nodes) nodes
    above (Some place) = refl

pub above_earlier : (nodes : List Node) (i above : ℕ) (d : Node) → is_tree nodes ≡ true → i < length nodes
    → (get_or nodes i d).above ≡ Some above → above < i
above_earlier nodes i above d tree lt is = ltb-true above i
    (subst (λ (o : Option ℕ). is_above o i ≡ true) is (tree_at nodes i d tree lt))

-- ---- children

later : (from : ℕ) (nodes : List Node) (place k : ℕ) → k < from
    → list_any (λ x. x == k) (children_from from nodes place) ≡ false
unfolding children_from
later from [] place k lt = refl
later from (node ∷ nodes) place k lt = by_test (later (from + 1) nodes place k (omega (arith, lt)))
    (names node.above place)
  where
    by_test : list_any (λ x. x == k) (children_from (from + 1) nodes place) ≡ false → (here : Bool)
        → list_any (λ x. x == k) (if here then from ∷ children_from (from + 1) nodes place
        else children_from (from + 1) nodes place) ≡ false
    by_test more true = let not : (from == k) ≡ false = grind (arith, nat_tests) in rw not more
    by_test more false = more

child_from : (from : ℕ) (nodes : List Node) (place i k : ℕ) (other : Node) → slice_get nodes i ≡ Some other → k ≡ from
    + i → list_any (λ x. x == k) (children_from from nodes place) ≡ names other.above place
unfolding children_from
child_from from [] place i k other is at = absurd cc
child_from from (node ∷ nodes) place zero k other is at =
    let same : node ≡ other = ap (λ (o : Option Node). unwrap_or o node) is in
    by_test (names node.above place) ∙ ap (λ (n : Node). names n.above place) same
  where
    by_test : (here : Bool) → list_any (λ x. x == k) (if here then from ∷ children_from (from + 1) nodes place
        else children_from (from + 1) nodes place) ≡ here
    by_test true = let first : (from == k) ≡ true = grind (arith, nat_tests) in rw first refl
    by_test false = later (from + 1) nodes place k (omega (arith, at))
child_from from (node ∷ nodes) place (suc i) k other is at
    = by_test (child_from (from + 1) nodes place i k other is (omega (arith, at))) (names node.above place)
  where
    by_test : list_any (λ x. x == k) (children_from (from + 1) nodes place) ≡ names other.above place → (here : Bool)
        → list_any (λ x. x == k) (if here then from ∷ children_from (from + 1) nodes place
        else children_from (from + 1) nodes place) ≡ names other.above place
    by_test more true = let not : (from == k) ≡ false = grind (arith, nat_tests) in rw not more
    by_test more false = more

none_from : (from : ℕ) (nodes : List Node) (place : ℕ)
    → ((i : ℕ) (other : Node) → slice_get nodes i ≡ Some other → names other.above place ≡ false)
    → children_from from nodes place ≡ []
unfolding children_from
none_from from [] place none = refl
none_from from (node ∷ nodes) place none = rw (none 0 node refl)
    (none_from (from + 1) nodes place (λ i other is. none (suc i) other is))

pub no_child : (nodes : List Node) (place : ℕ) → children nodes place ≡ [] → is_leaf nodes place ≡ true
no_child nodes place none = rw none refl

pub placed : (nodes : List Node) → is_tree nodes ≡ true → (place : ℕ) (node : Node) → slice_get nodes place
    ≡ Some node → IsPlaced nodes place node
placed nodes tree place node is =
    let same : get_or nodes place node ≡ node = get_or_from_slice_get nodes place node node is in
    record {
      path = rw same at (path_step nodes place node tree (slice_get_within nodes place node is));
      child = λ at other there. child_from 0 nodes place at at other there (omega arith);
      leaf = λ none. no_child nodes place (none_from 0 nodes place none);
    }
