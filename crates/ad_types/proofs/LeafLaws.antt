-- The leaves of the tree of attributes.
use Rattle.std.proofs.Common.{◌≡◌, ℕ, zero, suc, ◌+◌, ◌<◌, ◌≤◌, Bool, true, false, not, ◌||◌, cond, ltb}
use Rattle.std.proofs.Common.{if◌then◌else◌, Option, None, Some, List, [], ◌∷◌, ◌++◌, length, get_or, map, refl, sym}
use Rattle.std.proofs.Common.{ap, subst, ◌∙◌, unwrap_or, arith}
use Rattle.std.specs.Prelude.{All, slice_get, position, ◌==◌}
use Rattle.std.specs.List.{list_any, position_or_len, filter_map, cons_option}
use Rattle.std.specs.Option.{option_map, option_map_or, option_and_then, option_to_list}
use Rattle.std.proofs.lemmas.Bool.{ltb-true}
use Rattle.std.proofs.lemmas.Bool.Decides.{nat_tests}
use Rattle.std.proofs.lemmas.List.{length-map, length-append}
use Rattle.std.proofs.lemmas.List.Folds.{list_any-append}
use Rattle.std.proofs.lemmas.List.Quantifiers.{position-Some}
use Rattle.std.proofs.lemmas.Option.{slice_get-map, slice_get-get_or, slice_get_within}
use Rattle.std.proofs.lemmas.Slice.Eq.{bytes_eq-Decides}
use Rattle.ad_ids.specs.declared.guid.Guid.{Guid}
use Rattle.ad_ids.specs.Guid.{same_guid}
use Rattle.ad_schema.specs.declared.line.SchemaRecord.{SchemaRecord}
use Rattle.ad_schema.specs.declared.info.AttrId.{AttrId}
use Rattle.ad_schema.specs.declared.info.ClassId.{ClassId}
use Rattle.ad_schema.specs.declared.info.AttrInfo.{AttrInfo}
use Rattle.ad_schema.specs.declared.info.ClassInfo.{ClassInfo}
use Rattle.ad_schema.specs.Attributes.{attrs_of}
use Rattle.ad_schema.specs.Classes.{classes_of}
use Rattle.ad_types.specs.declared.type_tree.Node.{Node}
use Rattle.ad_types.specs.Tree.{is_tree, path_at, path_above, names, children_from, children, is_leaf}
use Rattle.ad_types.specs.TypesOf.{attr_path, path_of, infos_at, with_set, sets_behind, class_node, set_node}
use Rattle.ad_types.specs.TypesOf.{above_attr, attr_node, nodes_of, tree_of, sets_of, HasLeaves}
use Rattle.ad_types.proofs.BuildLaws.{within, is_tree-nodes_of}
use Rattle.ad_types.proofs.TreeLaws.{placed, no_child}

-- ---- the attributes of ids

abbrev AreLow : List SchemaRecord → List AttrId → Type 0
AreLow records ids = All (λ attr. attr.0 < length (attrs_of records)) ids

first_low : (records : List SchemaRecord) (first : AttrId) (ids : List AttrId) → AreLow records (first ∷ ids)
    → first.0 < length (attrs_of records)
first_low records first ids all = all 0 first (omega arith)

rest_low : (records : List SchemaRecord) (first : AttrId) (ids : List AttrId) → AreLow records (first ∷ ids)
    → AreLow records ids
rest_low records first ids all = λ k d lt. all (suc k) d (omega (arith, lt))

info_at : (records : List SchemaRecord) (ids : List AttrId) (i : ℕ) (id : AttrId) (info : AttrInfo)
    → All (λ attr. attr.0 < length (attrs_of records)) ids → slice_get ids i ≡ Some id → slice_get (attrs_of records)
    id.0 ≡ Some info
    → slice_get (infos_at records ids) i ≡ Some info
unfolding infos_at
info_at records [] i id info all is there = absurd cc
info_at records (first ∷ ids) zero id info all is there =
    let same : first ≡ id = ap (λ (o : Option AttrId). unwrap_or o first) is in
    let here : slice_get (attrs_of records) first.0 ≡ Some info
    = ap (λ (a : AttrId). slice_get (attrs_of records) a.0) same ∙ there in
    rw here refl
info_at records (first ∷ ids) (suc i) id info all is there =
    let d : AttrInfo = info in
    rw (slice_get-get_or (attrs_of records) first.0 d (first_low records first ids all))
    (info_at records ids i id info (rest_low records first ids all) is there)

length-infos : (records : List SchemaRecord) (ids : List AttrId) (d : AttrInfo)
    → All (λ attr. attr.0 < length (attrs_of records)) ids → length (infos_at records ids) ≡ length ids
unfolding infos_at
length-infos records [] d all = refl
length-infos records (first ∷ ids) d all = rw
    (slice_get-get_or (attrs_of records) first.0 d (first_low records first ids all))
    (ap (λ (n : ℕ). suc n) (length-infos records ids d (rest_low records first ids all)))

-- ---- the sets

same_itself : (guid : Guid) → same_guid guid guid ≡ true
same_itself guid = (bytes_eq-Decides guid.bytes guid.bytes).1 refl

or_left : (a b : Bool) → a ≡ true → a || b ≡ true
or_left a b e = rw e refl

or_true : (a : Bool) → a || true ≡ true
or_true true = refl
or_true false = refl

with_kept : (p : Guid → Bool) (seen : List Guid) (set : Option Guid) → list_any p seen ≡ true
    → list_any p (with_set seen set) ≡ true
unfolding with_set
with_kept p seen None has = has
with_kept p seen (Some set) has = by_test (list_any (λ other. same_guid other set) seen)
  where
    by_test : (test : Bool) → list_any p (if test then seen else seen ++ set ∷ []) ≡ true
    by_test true = has
    by_test false = list_any-append p seen (set ∷ []) ∙ or_left (list_any p seen) _ has

all_kept : (p : Guid → Bool) (seen : List Guid) (infos : List AttrInfo) → list_any p seen ≡ true
    → list_any p (sets_behind seen infos) ≡ true
unfolding sets_behind
all_kept p seen [] has = has
all_kept p seen (info ∷ infos) has = all_kept p (with_set seen info.set) infos (with_kept p seen info.set has)

with_has : (seen : List Guid) (set : Guid) → list_any (λ other. same_guid other set) (with_set seen (Some set)) ≡ true
unfolding with_set
with_has seen set = by_test (list_any (λ other. same_guid other set) seen) refl
  where
    by_test : (test : Bool) → list_any (λ other. same_guid other set) seen ≡ test
        → list_any (λ other. same_guid other set) (if test then seen else seen ++ set ∷ []) ≡ true
    by_test true is = is
    by_test false is = list_any-append (λ other. same_guid other set) seen (set ∷ [])
        ∙ rw (same_itself set) (or_true (list_any (λ other. same_guid other set) seen))

sets_have : (seen : List Guid) (infos : List AttrInfo) (i : ℕ) (info : AttrInfo) (set : Guid) → slice_get infos i
    ≡ Some info → info.set ≡ Some set → list_any (λ other. same_guid other set) (sets_behind seen infos) ≡ true
unfolding sets_behind
sets_have seen [] i info set is own = absurd cc
sets_have seen (first ∷ infos) zero info set is own =
    let same : first ≡ info = ap (λ (o : Option AttrInfo). unwrap_or o first) is in
    let here : first.set ≡ Some set = ap (λ (k : AttrInfo). k.set) same ∙ own in
    all_kept (λ other. same_guid other set) (with_set seen first.set) infos (rw here (with_has seen set))
sets_have seen (first ∷ infos) (suc i) info set is own = sets_have (with_set seen first.set) infos i info set is own

any_low : {A : Type 0} (p : A → Bool) (xs : List A) → list_any p xs ≡ true → position_or_len p xs < length xs
any_low p [] has = absurd cc
any_low p (x ∷ xs) has = by_test (any_low p xs) (p x) refl
  where
    by_test : (list_any p xs ≡ true → position_or_len p xs < length xs) → (test : Bool) → p x ≡ test
        → cond (not test) (1 + position_or_len p xs) 0 < suc (length xs)
    by_test more true is = omega arith
    by_test more false is = let lt = more (rw is at has) in omega (arith, lt)

abbrev guid_of : List ℕ → Guid
guid_of bytes = record { bytes = bytes }

record Found (sets : List Guid) (set : Guid) : Type 0 where
  place : ℕ
  first : position (λ other. same_guid other set) sets ≡ Some place
  there : slice_get sets place ≡ Some set

found : (sets : List Guid) (set : Guid) → list_any (λ other. same_guid other set) sets ≡ true → Found sets set
found sets set has =
    let k : ℕ = position_or_len (λ other. same_guid other set) sets in
    let lt : ltb k (length sets) ≡ true = (let low = any_low (λ other. same_guid other set) sets has
    in grind (arith, nat_tests)) in
    let first : position (λ other. same_guid other set) sets ≡ Some k = rw lt refl in
    let at = position-Some (λ other. same_guid other set) sets k set first in
    record {
      place = k;
      first = first;
      there = slice_get-get_or sets k set at.0
          ∙ ap Some (same_bytes (get_or sets k set) set at.1);
    }
  where
    same_bytes : (a b : Guid) → same_guid a b ≡ true → a ≡ b
    same_bytes a b is = ap (λ (bytes : List ℕ). guid_of bytes) ((bytes_eq-Decides a.bytes b.bytes).0 is)

-- ---- the nodes

get_first : {A : Type 0} (xs ys : List A) (i : ℕ) (x : A) → slice_get xs i ≡ Some x → slice_get (xs ++ ys) i ≡ Some x
get_first [] ys i x is = absurd cc
get_first (y ∷ xs) ys zero x is = is
get_first (y ∷ xs) ys (suc i) x is = get_first xs ys i x is

get_second : {A : Type 0} (xs ys : List A) (i n : ℕ) → n ≡ length xs + i → slice_get (xs ++ ys) n ≡ slice_get ys i
get_second [] ys i n is = let same : n ≡ i = omega (arith, is) in ap (slice_get ys) same
get_second (x ∷ xs) ys i zero is = absurd (omega (arith, is))
get_second (x ∷ xs) ys i (suc n) is = get_second xs ys i n (omega (arith, is))

node_at : (class : Guid) (sets : List Guid) (infos : List AttrInfo) (i : ℕ) (info : AttrInfo) → slice_get infos i
    ≡ Some info → slice_get (nodes_of class sets infos) (1 + length sets + i) ≡ Some (attr_node sets info)
node_at class sets infos i info is =
    get_second (class_node class ∷ map set_node sets) (map (attr_node sets) infos) i (1 + length sets + i)
    (omega (arith, length-map sets set_node))
    ∙ slice_get-map (attr_node sets) infos i ∙ ap (option_map (attr_node sets)) is

set_at : (class : Guid) (sets : List Guid) (infos : List AttrInfo) (k : ℕ) (set : Guid) → slice_get sets k ≡ Some set
    → slice_get (nodes_of class sets infos) (suc k) ≡ Some (set_node set)
set_at class sets infos k set is = get_first (map set_node sets) (map (attr_node sets) infos) k (set_node set)
    (slice_get-map set_node sets k ∙ ap (option_map set_node) is)

-- ---- the leaves

none_sets : (from : ℕ) (sets : List Guid) (rest : List Node) (place : ℕ) → 0 < place
    → children_from (from + length sets) rest place ≡ [] → children_from from (map set_node sets ++ rest) place ≡ []
unfolding children_from
none_sets from [] rest place some none = let same : from + 0 ≡ from = omega arith in rw same at none
none_sets from (set ∷ sets) rest place some none =
    let not : (0 == place) ≡ false = grind (arith, nat_tests) in
    let same : from + suc (length sets) ≡ from + 1 + length sets = omega arith in
    rw not (none_sets (from + 1) sets rest place some (rw same at none))

none_attrs : (from : ℕ) (sets : List Guid) (infos : List AttrInfo) (place : ℕ) → length sets < place
    → children_from from (map (attr_node sets) infos) place ≡ []
unfolding children_from
none_attrs from sets [] place lt = refl
none_attrs from sets (info ∷ infos) place lt =
    let low = within sets info.set place lt in
    let not : (above_attr sets info.set == place) ≡ false = grind (arith, nat_tests) in
    rw not (none_attrs (from + 1) sets infos place lt)

none_below : (class : Guid) (sets : List Guid) (infos : List AttrInfo) (place : ℕ) → length sets < place
    → children (nodes_of class sets infos) place ≡ []
unfolding children_from
none_below class sets infos place lt = none_sets 1 sets (map (attr_node sets) infos) place (omega (arith, lt))
    (none_attrs (1 + length sets) sets infos place lt)

-- ---- the paths

top_path : (class : Guid) (sets : List Guid) (infos : List AttrInfo) → path_at (nodes_of class sets infos) 0 ≡ class
    ∷ []
top_path class sets infos = (placed (nodes_of class sets infos) (is_tree-nodes_of class sets infos) 0
    (class_node class) refl).path

set_path : (class : Guid) (sets : List Guid) (infos : List AttrInfo) (k : ℕ) (set : Guid) → slice_get sets k
    ≡ Some set → path_at (nodes_of class sets infos) (suc k) ≡ class ∷ set ∷ []
set_path class sets infos k set is =
    (placed (nodes_of class sets infos) (is_tree-nodes_of class sets infos) (suc k) (set_node set)
    (set_at class sets infos k set is)).path
    ∙ ap (λ (p : List Guid). p ++ set ∷ []) (top_path class sets infos)

above_path : (class : Guid) (sets : List Guid) (infos : List AttrInfo) (own : Option Guid)
    → ((set : Guid) → own ≡ Some set → list_any (λ other. same_guid other set) sets ≡ true)
    → path_at (nodes_of class sets infos) (above_attr sets own) ≡ class ∷ option_to_list own
unfolding above_attr
above_path class sets infos None has = top_path class sets infos
above_path class sets infos (Some set) has =
    let at = found sets set (has set refl) in
    rw at.first (set_path class sets infos at.place set at.there)

leaf_path : (class : Guid) (infos : List AttrInfo) (i : ℕ) (info : AttrInfo) → slice_get infos i ≡ Some info
    → path_at (nodes_of class (sets_behind [] infos) infos) (1 + length (sets_behind [] infos) + i)
    ≡ attr_path class info
leaf_path class infos i info is =
    let sets : List Guid = sets_behind [] infos in
    (placed (nodes_of class sets infos) (is_tree-nodes_of class sets infos) (1 + length sets + i)
    (attr_node sets info) (node_at class sets infos i info is)).path
    ∙ ap (λ (p : List Guid). p ++ info.guid ∷ [])
    (above_path class sets infos info.set (λ set own. sets_have [] infos i info set is own))

-- ---- the tree of a class

record ClassAt (records : List SchemaRecord) (class : ClassId) : Type 0 where
  info : ClassInfo
  there : slice_get (classes_of records) class.0 ≡ Some info

class_at : (records : List SchemaRecord) (class : ClassId) → class.0 < length (classes_of records)
    → ClassAt records class
class_at records class lt = by_list (classes_of records) refl lt
  where
    by_list : (infos : List ClassInfo) → classes_of records ≡ infos → class.0 < length infos → ClassAt records class
    by_list [] is low = absurd (omega (arith, low))
    by_list (first ∷ infos) is low = record {
      info = get_or (first ∷ infos) class.0 first;
      there
          = ap (λ (l : List ClassInfo). slice_get l class.0) is ∙ slice_get-get_or (first ∷ infos) class.0 first low;
    }

all_at : (records : List SchemaRecord) (ids : List AttrId) (i : ℕ) (id : AttrId)
    → All (λ attr. attr.0 < length (attrs_of records)) ids → slice_get ids i ≡ Some id → id.0
    < length (attrs_of records)
all_at records [] i id all is = absurd cc
all_at records (first ∷ ids) zero id all is = subst (λ (a : AttrId). a.0 < length (attrs_of records))
    (ap (λ (o : Option AttrId). unwrap_or o first) is) (first_low records first ids all)
all_at records (first ∷ ids) (suc i) id all is = all_at records ids i id (rest_low records first ids all) is

tree_is : (records : List SchemaRecord) (class : ClassId) (ids : List AttrId) (info : ClassInfo)
    → slice_get (classes_of records) class.0 ≡ Some info → tree_of records class ids
    ≡ nodes_of info.guid (sets_of records ids) (infos_at records ids)
tree_is records class ids info is = rw is refl

path_is : (records : List SchemaRecord) (class : ClassId) (attr : AttrId) (info : ClassInfo) (own : AttrInfo)
    → slice_get (classes_of records) class.0 ≡ Some info → slice_get (attrs_of records) attr.0 ≡ Some own
    → path_of records class attr ≡ attr_path info.guid own
path_is records class attr info own one two = rw (one, two) refl

length-all : (records : List SchemaRecord) (ids : List AttrId) → All (λ attr. attr.0 < length (attrs_of records)) ids
    → length (infos_at records ids) ≡ length ids
unfolding infos_at
length-all records [] all = refl
length-all records (first ∷ ids) all = by_list (attrs_of records) refl (first_low records first ids all)
  where
    by_list : (infos : List AttrInfo) → attrs_of records ≡ infos → first.0 < length infos
        → length (infos_at records (first ∷ ids)) ≡ suc (length ids)
    by_list [] is low = absurd (omega (arith, low))
    by_list (d ∷ infos) is low = length-infos records (first ∷ ids) d all

pub has_leaves : (records : List SchemaRecord) (class : ClassId) (ids : List AttrId) → class.0
    < length (classes_of records) → All (λ attr. attr.0 < length (attrs_of records)) ids → HasLeaves records class ids
has_leaves records class ids lt all = record {
  long =
      ap length tree
      ∙ (let two = length-append (class_node at.info.guid ∷ map set_node sets) (map (attr_node sets) infos) in
      omega (arith, two, length-map sets set_node, length-map infos (attr_node sets), length-all records ids all));
  leaf = λ i low. rw tree (no_child (nodes_of at.info.guid sets infos) (1 + length sets + i)
      (none_below at.info.guid sets infos (1 + length sets + i) (omega arith)));
  path = λ i id is. path i id is (attrs_of records) refl (all_at records ids i id all is);
}
  where
    at : ClassAt records class
    at = class_at records class lt

    infos : List AttrInfo
    infos = infos_at records ids

    sets : List Guid
    sets = sets_of records ids

    tree : tree_of records class ids ≡ nodes_of at.info.guid sets infos
    tree = tree_is records class ids at.info at.there

    path : (i : ℕ) (id : AttrId) → slice_get ids i ≡ Some id → (list : List AttrInfo) → attrs_of records ≡ list → id.0
        < length list → path_at (tree_of records class ids) (1 + length (sets_of records ids) + i)
        ≡ path_of records class id
    path i id is [] from low = absurd (omega (arith, low))
    path i id is (first ∷ list) from low =
        let own : AttrInfo = get_or (first ∷ list) id.0 first in
        let there : slice_get (attrs_of records) id.0 ≡ Some own = ap (λ (l : List AttrInfo). slice_get l id.0) from
        ∙ slice_get-get_or (first ∷ list) id.0 first low in
        rw tree (leaf_path at.info.guid infos i own (info_at records ids i id own all is there)
        ∙ sym (path_is records class id at.info own at.there there))
