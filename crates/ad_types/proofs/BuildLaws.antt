-- The nodes of the tree of attributes, one after the other.
use Rattle.std.proofs.Common.{◌≡◌, ℕ, suc, ◌+◌, ◌<◌, ◌≤◌, Bool, true, false, ◌&&◌, cond, if◌then◌else◌, ltb, Option}
use Rattle.std.proofs.Common.{None, Some, List, [], ◌∷◌, ◌++◌, length, get_or, drop, map, refl, sym, ap, ◌∙◌}
use Rattle.std.proofs.Common.{append_assoc, arith}
use Rattle.std.specs.Prelude.{slice_get, ◌==◌}
use Rattle.std.specs.List.{cons_option, filter_map, position_or_len, list_any}
use Rattle.std.specs.Option.{option_map_or}
use Rattle.std.proofs.lemmas.Bool.{ltb-true}
use Rattle.std.proofs.lemmas.Bool.Decides.{nat_tests}
use Rattle.std.proofs.lemmas.List.{at_drop_more, at_drop_all, append-nil, length-map}
use Rattle.ad_ids.specs.declared.guid.Guid.{Guid}
use Rattle.ad_schema.specs.declared.line.SchemaRecord.{SchemaRecord}
use Rattle.ad_schema.specs.declared.info.AttrId.{AttrId}
use Rattle.ad_schema.specs.declared.info.AttrInfo.{AttrInfo}
use Rattle.ad_schema.specs.Attributes.{attrs_of}
use Rattle.ad_ids.specs.Guid.{same_guid}
use Rattle.ad_types.specs.declared.type_tree.Node.{Node}
use Rattle.ad_types.specs.Tree.{is_above, are_below, is_tree}
use Rattle.ad_types.specs.TypesOf.{infos_at, with_set, sets_behind, set_node, above_attr, attr_node, nodes_of}

-- ---- one attribute more

pub infos_more : (records : List SchemaRecord) (ids : List AttrId) (i : ℕ) (d : AttrId) (info : AttrInfo) → i
    < length ids → slice_get (attrs_of records) (get_or ids i d).0 ≡ Some info
    → infos_at records (drop i ids) ≡ info ∷ infos_at records (drop (i + 1) ids)
unfolding infos_at
infos_more records ids i d info lt is =
    at_drop_more (filter_map (λ id. slice_get (attrs_of records) id.0)) ids i d lt
    ∙ ap (λ (o : Option AttrInfo). cons_option o
    (filter_map (λ id. slice_get (attrs_of records) id.0) (drop (i + 1) ids))) is

pub infos_end : (records : List SchemaRecord) (ids : List AttrId) (i : ℕ) → length ids ≤ i
    → infos_at records (drop i ids) ≡ []
unfolding infos_at
infos_end records ids i le = at_drop_all (filter_map (λ id. slice_get (attrs_of records) id.0)) ids i le

pub sets_more : (seen new : List Guid) (all rest : List AttrInfo) (info : AttrInfo) → all ≡ info ∷ rest → new
    ≡ with_set seen info.set → sets_behind seen all ≡ sets_behind new rest
unfolding sets_behind
sets_more seen new all rest info step is = rw (step, is) refl

pub sets_end : (seen : List Guid) (all : List AttrInfo) → all ≡ [] → sets_behind seen all ≡ seen
unfolding sets_behind
sets_end seen all none = rw none refl

-- what is pushed so far, before the rest
pub pushed : {A B : Type 0} (f : A → B) (front whole : List B) (all rest : List A) (x : A) (y : B) → front
    ++ map f all ≡ whole → all ≡ x ∷ rest → y ≡ f x → (front ++ y ∷ []) ++ map f rest ≡ whole
pushed f front whole all rest x y so_far step is =
    append_assoc front (y ∷ []) (map f rest) ∙ ap (λ (z : _). front ++ z ∷ map f rest) is
    ∙ sym (ap (λ (l : List _). front ++ map f l) step) ∙ so_far

pub ended : {A B : Type 0} (f : A → B) (front whole : List B) (all : List A) → front ++ map f all ≡ whole → all ≡ []
    → front ≡ whole
ended f front whole all so_far none = sym (append-nil front) ∙ sym (ap (λ (l : List _). front ++ map f l) none) ∙ so_far

-- ---- the nodes make a tree

below_both : (xs ys : List Node) (from : ℕ) → are_below from xs ≡ true → are_below (from + length xs) ys ≡ true
    → are_below from (xs ++ ys) ≡ true
unfolding are_below
below_both [] ys from a b = let same : from + 0 ≡ from = omega arith in rw same at b
below_both (x ∷ xs) ys from a b =
    let same : from + suc (length xs) ≡ (from + 1) + length xs = omega arith in
    both (is_above x.above from) (are_below (from + 1) xs) (are_below (from + 1) (xs ++ ys)) a
    (λ more. below_both xs ys (from + 1) more (rw same at b))
  where
    both : (here rest all : Bool) → here && rest ≡ true → (rest ≡ true → all ≡ true) → here && all ≡ true
    both true rest all e more = more e
    both false rest all e more = e

below_sets : (sets : List Guid) (from : ℕ) → 0 < from → are_below from (map set_node sets) ≡ true
unfolding are_below
below_sets [] from some = refl
below_sets (set ∷ sets) from some = let lt : ltb 0 from ≡ true = grind (arith, nat_tests)
    in rw (lt, below_sets sets (from + 1) (omega arith)) refl

pub within : (sets : List Guid) (set : Option Guid) (from : ℕ) → length sets < from → above_attr sets set < from
unfolding above_attr
within sets None from lt = omega arith
within sets (Some own) from lt = by_test (ltb (position_or_len (λ other. same_guid other own) sets) (length sets)) refl
  where
    by_test : (test : Bool) → ltb (position_or_len (λ other. same_guid other own) sets) (length sets) ≡ test
        → option_map_or (λ place. suc place) (cond test (Some (position_or_len (λ other. same_guid other own) sets))
        None) 0 < from
    by_test true is = let low : position_or_len (λ other. same_guid other own) sets < length sets = ltb-true _ _ is
        in omega arith
    by_test false is = omega arith

below_attrs : (sets : List Guid) (infos : List AttrInfo) (from : ℕ) → length sets < from
    → are_below from (map (attr_node sets) infos) ≡ true
unfolding are_below
below_attrs sets [] from lt = refl
below_attrs sets (info ∷ infos) from lt =
    let low : above_attr sets info.set < from = within sets info.set from lt in
    let test : ltb (above_attr sets info.set) from ≡ true = grind (arith, nat_tests) in
    rw (test, below_attrs sets infos (from + 1) (omega arith)) refl

pub is_tree-nodes_of : (class : Guid) (sets : List Guid) (infos : List AttrInfo) → is_tree (nodes_of class sets infos)
    ≡ true
unfolding are_below
is_tree-nodes_of class sets infos =
    let some : (length (nodes_of class sets infos) == 0) ≡ false = grind (arith, nat_tests) in
    rw some (below_both (map set_node sets) (map (attr_node sets) infos) 1 (below_sets sets 1 (omega arith))
    (below_attrs sets infos (1 + length (map set_node sets)) (omega (arith, length-map sets set_node))))

-- ---- a set that is seen, and the tree that is made

pub kept : (seen list : List Guid) (set : Option Guid) (x : Guid) (test : Bool) → set ≡ Some x → list ≡ seen → test
    ≡ list_any (λ other. same_guid other x) list → test ≡ true → seen ≡ with_set seen set
unfolding with_set
kept seen list set x test some same is holds = let t : list_any (λ other. same_guid other x) seen ≡ true
    = ap (list_any (λ other. same_guid other x)) (sym same) ∙ sym is ∙ holds in rw (some, t) refl

pub made : (nodes : List Node) (tree : Option (List Node)) → tree ≡ (if is_tree nodes then Some nodes else None)
    → is_tree nodes ≡ true → tree ≡ Some nodes
made nodes tree is holds = is ∙ rw holds refl
