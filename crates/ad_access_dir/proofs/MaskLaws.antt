-- What is found at the leaves of the tree of attributes of a class.
use Rattle.std.proofs.Common.{◌≡◌, ℕ, ◌+◌, ◌-◌, ◌<◌, ◌≤◌, Bool, true, List, Option, Some, Result, Ok, Err, IfOk}
use Rattle.std.proofs.Common.{length, ap, subst, ◌∙◌, arith, get_or}
use Rattle.std.specs.Prelude.{◌&&◌, slice_get, Vec}
use Rattle.std.specs.declared.alloc.Global.{Global}
use Rattle.std.proofs.lemmas.Option.{slice_get_within}
use Rattle.ad_ids.specs.declared.guid.Guid.{Guid}
use Rattle.ad_ids.specs.declared.token.Token.{Token}
use Rattle.ad_ids.specs.SidValue.{SidValue}
use Rattle.ad_sd.specs.declared.parts.Sd.{Sd}
use Rattle.ad_acl.specs.Mask.{mapped_has}
use Rattle.ad_types.specs.declared.type_tree.Node.{Node}
use Rattle.ad_schema.specs.declared.info.AttrId.{AttrId}
use Rattle.ad_schema.specs.declared.info.ClassId.{ClassId}
use Rattle.ad_types.specs.Tree.{is_leaf, path_at}
use Rattle.ad_types.specs.TypesOf.{path_of, tree_of, sets_of, HasLeaves}
use Rattle.ad_access.specs.Grant.{granted}
use Rattle.ad_access.specs.Tree.{node_granted}
use Rattle.ad_access.specs.Rights.{right_at}
use Rattle.ad_dir_model.specs.Directory.{Directory}
use Rattle.ad_dir_model.specs.Objects.{sd_at}
use Rattle.ad_dir_model.specs.Identity.{self_sid}
use Rattle.ad_access_dir.specs.Sight.{is_granted}
use Rattle.ad_access_dir.specs.Masks.{IsMask}

-- what the law on leaves says
abbrev pub LeafLaw : Type 0
LeafLaw = (sd : Sd) (token : Token) (self : Option SidValue) (nodes : List Node) (place bit : ℕ) → place
    < length nodes → is_leaf nodes place ≡ true
    → node_granted sd token self nodes place bit ≡ granted sd.owner sd.dacl.entries token self (path_at nodes place) bit

-- what is found at each node of the tree of attributes
abbrev pub AreNodeMasks : Directory → Token → ℕ → ClassId → List AttrId → ℕ → List ℕ → Type 0
AreNodeMasks dir token number class ids want masks = (place : ℕ) → place < length (tree_of dir.schema class ids)
    → IsMask want (node_granted (sd_at dir.objects number) token (self_sid dir number) (tree_of dir.schema class ids)
    place) (get_or masks place 0)

module _ (dir : Directory) (token : Token) (number : ℕ) (class : ClassId) (ids : List AttrId) (want : ℕ) where
  -- what is granted at the leaf of an attribute is what is granted on its path
  leaf_grants : HasLeaves dir.schema class ids → LeafLaw → (i : ℕ) (id : AttrId) (bit : ℕ) → i < length ids
      → slice_get ids i ≡ Some id
      → node_granted (sd_at dir.objects number) token (self_sid dir number) (tree_of dir.schema class ids)
      (1 + length (sets_of dir.schema ids) + i) bit
      ≡ is_granted dir token number (path_of dir.schema class id) bit
  unfolding is_granted
  leaf_grants has law i id bit within there =
      let place = 1 + length (sets_of dir.schema ids) + i in
      let inside : place < length (tree_of dir.schema class ids) = omega (arith, has.long) in
      law (sd_at dir.objects number) token (self_sid dir number) (tree_of dir.schema class ids) place bit inside
      (has.leaf i within)
      ∙ ap (λ (path : List Guid). granted (sd_at dir.objects number).owner (sd_at dir.objects number).dacl.entries
      token (self_sid dir number) path bit) (has.path i id there)

  pub leaf_mask : HasLeaves dir.schema class ids → LeafLaw → (masks : List ℕ) → length masks
      ≡ length (tree_of dir.schema class ids)
      → AreNodeMasks dir token number class ids want masks → (i : ℕ) (id : AttrId) → slice_get ids i ≡ Some id
      → IsMask want (is_granted dir token number (path_of dir.schema class id))
      (get_or masks ((length masks - length ids) + i) 0)
  leaf_mask has law masks long masked i id there =
      let within : i < length ids = slice_get_within ids i id there in
      let place = 1 + length (sets_of dir.schema ids) + i in
      let inside : place < length (tree_of dir.schema class ids) = omega (arith, has.long) in
      let same : (length masks - length ids) + i ≡ place = omega (arith, has.long, long) in
      let mask = masked place inside in
      rw same (record {
        bits = λ bit lt. mask.bits bit lt ∙ ap (λ (b : Bool). mapped_has want bit && b)
            (leaf_grants has law i id bit within there);
      })

  pub leaves_long : HasLeaves dir.schema class ids → (masks : List ℕ) → length masks
      ≡ length (tree_of dir.schema class ids) → length ids ≤ length masks
  leaves_long has masks long = omega (arith, has.long, long)

  -- ---- of what a call answers

  -- as the check of a tree says it
  abbrev pub ChecksTree : {E : Type 0} → Result (Vec ℕ Global) E → List Node → Sd → Option SidValue → Type 0
  ChecksTree r tree sd self = IfOk r (λ rights. (place bit : ℕ) → place < length tree → bit < 32
      → right_at rights.items bit place ≡ (mapped_has want bit && node_granted sd token self tree place bit))

  by_nodes : {E : Type 0} (r : Result (Vec ℕ Global) E) → ChecksTree r (tree_of dir.schema class ids)
      (sd_at dir.objects number) (self_sid dir number)
      → IfOk r (λ masks. AreNodeMasks dir token number class ids want masks.items)
  by_nodes (Ok masks) given = λ place inside. record { bits = λ bit lt. given place bit inside lt }
  by_nodes (Err e) given = tt

  pub node_masks : {E : Type 0} (r : Result (Vec ℕ Global) E) (tree : List Node) (sd : Sd) (self : Option SidValue)
      → tree ≡ tree_of dir.schema class ids
      → sd ≡ sd_at dir.objects number → self ≡ self_sid dir number → ChecksTree r tree sd self
      → IfOk r (λ masks. AreNodeMasks dir token number class ids want masks.items)
  node_masks r tree sd self is_tree is_sd is_self given = by_nodes r
      (subst (λ (t : List Node). ChecksTree r t (sd_at dir.objects number) (self_sid dir number)) is_tree
      (subst (λ (s : Sd). ChecksTree r tree s (self_sid dir number)) is_sd
      (subst (λ (o : Option SidValue). ChecksTree r tree sd o) is_self given)))

  pub leaf_masks : {E : Type 0} (r : Result (Vec ℕ Global) E) → HasLeaves dir.schema class ids → LeafLaw
      → IfOk r (λ masks. length masks.items ≡ length (tree_of dir.schema class ids))
      → IfOk r (λ masks. AreNodeMasks dir token number class ids want masks.items)
      → IfOk r (λ masks. (i : ℕ) (id : AttrId) → slice_get ids i ≡ Some id
      → IsMask want (is_granted dir token number (path_of dir.schema class id))
      (get_or masks.items ((length masks.items - length ids) + i) 0))
  leaf_masks (Ok masks) has law long masked = leaf_mask has law masks.items long masked
  leaf_masks (Err e) has law long masked = tt

  pub leaves_are_long : {E : Type 0} (r : Result (Vec ℕ Global) E) → HasLeaves dir.schema class ids
      → IfOk r (λ masks. length masks.items ≡ length (tree_of dir.schema class ids))
      → IfOk r (λ masks. length ids ≤ length masks.items)
  leaves_are_long (Ok masks) has long = leaves_long has masks.items long
  leaves_are_long (Err e) has long = tt
