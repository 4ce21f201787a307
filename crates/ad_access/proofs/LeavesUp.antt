-- The rule of trees has one solution: what is closed upwards is what is granted at each node.
use Rattle.std.proofs.Common.{◌≡◌, ℕ, zero, suc, ◌+◌, ◌<◌, ◌≤◌, Bool, true, false, ◌&&◌, Option, None, Some, List, []}
use Rattle.std.proofs.Common.{◌∷◌, length, refl, ap, ◌∙◌, arith}
use Rattle.std.specs.Prelude.{if◌then◌else◌, ◌==◌, not}
use Rattle.std.specs.List.{list_all}
use Rattle.std.proofs.lemmas.Bool.{and_parts, ltb-true, eqb-true}
use Rattle.ad_ids.specs.declared.guid.Guid.{Guid}
use Rattle.ad_types.specs.declared.type_tree.Node.{Node}
use Rattle.ad_types.specs.Tree.{is_tree, is_above, are_below, names, children_from, children, is_leaf, path_at}
use Rattle.ad_access.specs.Tree.{granted_down, granted_at_node}

-- Tests that agree after a place agree on its children, since all of these stand after it.
all_children : (f g : ℕ → Bool) (at : ℕ) (nodes : List Node) (place : ℕ) → are_below at nodes ≡ true
    → ((c : ℕ) → place < c → c < at + length nodes → f c ≡ g c) → list_all f (children_from at nodes place)
    ≡ list_all g (children_from at nodes place)
unfolding children_from are_below
all_children f g at [] place below same = refl
all_children f g at (node ∷ others) place below same =
    let parts = and_parts (is_above node.above at) (are_below (at + 1) others) below in
    let rest : list_all f (children_from (at + 1) others place) ≡ list_all g (children_from (at + 1) others place)
    = all_children f g (at + 1) others place parts.1 (λ c after lt. same c after (omega (arith, lt))) in
    one node.above parts.0 rest
  where
    two : (named : Bool) → (named ≡ true → place < at) → list_all f (children_from (at + 1) others place)
        ≡ list_all g (children_from (at + 1) others place)
        → list_all f (if named then at ∷ children_from (at + 1) others place else children_from (at + 1) others place)
        ≡ list_all g (if named then at ∷ children_from (at + 1) others place else children_from (at + 1) others place)
    two true behind rest = ap (λ (b : Bool). b && list_all f (children_from (at + 1) others place))
        (same at (behind refl) (omega arith)) ∙ ap (λ (b : Bool). g at && b) rest
    two false behind rest = rest

    one : (above : Option ℕ) → is_above above at ≡ true → list_all f (children_from (at + 1) others place)
        ≡ list_all g (children_from (at + 1) others place)
        → list_all f (if names above place then at ∷ children_from (at + 1) others place else children_from (at + 1)
        others place) ≡ list_all g (if names above place then at ∷ children_from (at + 1) others place
        else children_from (at + 1) others place)
    one None e rest = rest
    one (Some a) e rest = two (a == place) (λ t. omega (arith, ltb-true a at e, eqb-true a place t)) rest

-- what holds at a leaf where its path is granted, and at an inner node where it holds at all its children, among
-- what is wanted
pub record IsClosed (nodes : List Node) (wanted : Bool) (grants : List Guid → Bool) (r : ℕ → Bool) : Type 0 where
  pub at : (place : ℕ) → place < length nodes → r place
      ≡ (if is_leaf nodes place then wanted && grants (path_at nodes place) else wanted
      && list_all r (children nodes place))

within_levels : (levels : ℕ) (nodes : List Node) (wanted : Bool) (grants : List Guid → Bool) (r : ℕ → Bool)
    → is_tree nodes ≡ true → IsClosed nodes wanted grants r → (place : ℕ) → place < length nodes → length nodes
    ≤ place + levels → r place ≡ wanted && granted_down levels nodes grants place
unfolding granted_down
within_levels zero nodes wanted grants r tree closed place lt enough = absurd (omega (arith, lt, enough))
within_levels (suc levels) nodes wanted grants r tree closed place lt enough =
    closed.at place lt ∙ one (is_leaf nodes place)
    (below wanted (λ c after small. within_levels levels nodes wanted grants r tree closed c small
    (omega (arith, after, enough))))
  where
    below : (w : Bool) → ((c : ℕ) → place < c → c < length nodes → r c ≡ w && granted_down levels nodes grants c) → w
        && list_all r (children nodes place) ≡ w && list_all (granted_down levels nodes grants) (children nodes place)
    below false more = refl
    below true more = all_children r (granted_down levels nodes grants) 0 nodes place
        (and_parts (not (length nodes == 0)) (are_below 0 nodes) tree).1
        (λ c after small. more c after (omega (arith, small)))

    one : (leaf : Bool) → wanted && list_all r (children nodes place) ≡ wanted
        && list_all (granted_down levels nodes grants) (children nodes place)
        → (if leaf then wanted && grants (path_at nodes place) else wanted && list_all r (children nodes place))
        ≡ wanted && (if leaf then grants (path_at nodes place) else list_all (granted_down levels nodes grants)
        (children nodes place))
    one true same = refl
    one false same = same

pub one_solution : (nodes : List Node) (wanted : Bool) (grants : List Guid → Bool) (r : ℕ → Bool) → is_tree nodes
    ≡ true → IsClosed nodes wanted grants r → (place : ℕ) → place < length nodes → r place ≡ wanted
    && granted_at_node nodes grants place
one_solution nodes wanted grants r tree closed place lt = within_levels (length nodes) nodes wanted grants r tree
    closed place lt (omega arith)

-- ---- the same without levels

levels_agree : (n m : ℕ) (nodes : List Node) (grants : List Guid → Bool) (place : ℕ) → is_tree nodes ≡ true → place
    < length nodes → length nodes ≤ place + n → length nodes ≤ place + m → granted_down n nodes grants place
    ≡ granted_down m nodes grants place
unfolding granted_down
levels_agree zero m nodes grants place tree lt a b = absurd (omega (arith, lt, a))
levels_agree (suc n) zero nodes grants place tree lt a b = absurd (omega (arith, lt, b))
levels_agree (suc n) (suc m) nodes grants place tree lt a b =
    ap (λ (x : Bool). if is_leaf nodes place then grants (path_at nodes place) else x)
    (all_children (granted_down n nodes grants) (granted_down m nodes grants) 0 nodes place
    (and_parts (not (length nodes == 0)) (are_below 0 nodes) tree).1
    (λ c after small. levels_agree n m nodes grants c tree (omega (arith, small)) (omega (arith, after, a))
    (omega (arith, after, b))))

pub at_leaf : (nodes : List Node) (grants : List Guid → Bool) (place : ℕ) → place < length nodes → is_leaf nodes place
    ≡ true → granted_at_node nodes grants place ≡ grants (path_at nodes place)
unfolding granted_down
at_leaf nodes grants place lt leaf = go (length nodes) (omega arith)
  where
    down : (n : ℕ) → granted_down (suc n) nodes grants place ≡ grants (path_at nodes place)
    down n = rw leaf refl

    go : (n : ℕ) → 0 < n → granted_down n nodes grants place ≡ grants (path_at nodes place)
    go zero some = absurd (omega arith)
    go (suc n) some = down n

pub at_inner : (nodes : List Node) (grants : List Guid → Bool) (place : ℕ) → is_tree nodes ≡ true → place
    < length nodes → is_leaf nodes place ≡ false → granted_at_node nodes grants place
    ≡ list_all (granted_at_node nodes grants) (children nodes place)
unfolding granted_down
at_inner nodes grants place tree lt inner = go (length nodes) refl
  where
    down : (n : ℕ) → granted_down (suc n) nodes grants place ≡ list_all (granted_down n nodes grants)
        (children nodes place)
    down n = rw inner refl

    go : (n : ℕ) → length nodes ≡ n → granted_down n nodes grants place ≡ list_all (granted_down n nodes grants)
        (children nodes place)
    go zero e = absurd (omega arith)
    go (suc n) e =
        down n
        ∙ all_children (granted_down n nodes grants) (granted_down (suc n) nodes grants) 0 nodes place
        (and_parts (not (length nodes == 0)) (are_below 0 nodes) tree).1
        (λ c after small. levels_agree n (suc n) nodes grants c tree (omega (arith, small))
        (omega (arith, after, e)) (omega (arith, e)))
