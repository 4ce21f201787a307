-- What is known of an addition and of a modification that the checks up to the required rights resolve an operation
-- to.
use Rattle.std.proofs.Common.{◌≡◌, ℕ, ◌<◌, ◌≤◌, true, List, [], ◌∷◌, length, Option, Some, None, refl, sym, subst, ap}
use Rattle.std.proofs.Common.{inl, inr}
use Rattle.std.specs.Prelude.{unwrap_or, drop, option_map, map, filter, filter_map, codes}
use Rattle.std.specs.List.{AllByRecursion, flat_map, cons_option}
use Rattle.std.proofs.lemmas.Bool.{cases_Bool}
use Rattle.std.proofs.lemmas.Option.{none-some, same_Some}
use Rattle.ad_bytes.specs.Reading.{IsBytes}
use Rattle.ad_ids.specs.declared.token.Token.{Token}
use Rattle.ad_dn.specs.Value.{IsValue}
use Rattle.ad_sd.specs.declared.parts.SdParts.{SdParts}
use Rattle.ad_ldap.specs.declared.items.Item.{Item}
use Rattle.ad_ldap.specs.declared.requests.Add.{Add}
use Rattle.ad_ldap.specs.declared.requests.Modify.{Modify}
use Rattle.ad_ldap.specs.MessageValue.{OpValue, Bind, Unbind, SearchOf, ModifyOf, AddOf, DeleteOf, RenameOf}
use Rattle.ad_ldap.specs.MessageValue.{CompareOf, Abandon, Extended}
use Rattle.ad_schema.specs.declared.line.SchemaRecord.{SchemaRecord}
use Rattle.ad_schema.specs.declared.info.AttrId.{AttrId}
use Rattle.ad_schema.specs.declared.info.ClassId.{ClassId}
use Rattle.ad_schema.specs.Attributes.{attrs_of}
use Rattle.ad_schema.specs.Classes.{classes_of}
use Rattle.ad_dir_objects.specs.declared.act.Act.TheVariants as act
use Rattle.ad_dir_objects.specs.declared.act.ActItem.{ActItem}
use Rattle.ad_dir_model.specs.Objects.{is_live}
use Rattle.ad_dir_model.specs.Attributes.{attr_place}
use Rattle.ad_dir_model.specs.Directory.{Directory}
use Rattle.ad_dir_model.specs.Soundness.{IsSound}
use Rattle.ad_dir_model.proofs.AdminCount.{place_within}
use Rattle.ad_needs_rules.specs.declared.outcome.Verdict.TheVariants.{Granted}
use Rattle.ad_needs_rules.specs.Checks.{first_failing}
use Rattle.ad_needs_rules.specs.Requests.{parts_in, number_named, is_descriptor}
use Rattle.ad_needs_rules.specs.Adding.{new_part, parent_named, parent_number, all_naming_checks, sent, new_class}
use Rattle.ad_needs_rules.specs.Adding.{class_number}
use Rattle.ad_needs_rules.specs.Adding.{all_ordinary, own_checks, new_values, by_id, is_value, ordinary, add_checks}
use Rattle.ad_needs_rules.specs.Adding.{add_act}
use Rattle.ad_needs_rules.specs.Deleting.{delete_act}
use Rattle.ad_needs_rules.specs.Renaming.{rename_act}
use Rattle.ad_needs_rules.specs.Modifying.{item_checks, act_item, act_items, modify_checks, modify_act}
use Rattle.ad_needs_rules.specs.Verdicts.{verdict_of, IsChange, Resolves}
use Rattle.ad_needs_rules.proofs.FirstFailing.{head_holds, both_hold, each_holds}
use Rattle.ad_needs_rules.proofs.Named.{live_or, named_live}
use Rattle.ad_change_values.specs.Judging.{HasByteItem}
use Rattle.ad_change.specs.Creating.{HasByteAttr}
use Rattle.ad_change.proofs.Contents.{all_of_filter_map}
use Rattle.ad_change.proofs.AddSound.{IsPlainAttr, class_or, first_value, ordinary_within, plain_is}
use Rattle.ad_change.proofs.ModifySound.{IsPlainItem, item_plain}
use Rattle.ad_change.proofs.Resolved.{granted_is}

-- ---- Add

-- values of each that is made of another, where something is known of both
all_made : {A B : Type 0} (P : A → Type 0) (Q R : B → Type 0) (f : A → Option B) (xs : List A)
    → ((x : A) (y : B) → P x → f x ≡ Some y → Q y → R y) → AllByRecursion P xs → AllByRecursion Q (filter_map f xs)
    → AllByRecursion R (filter_map f xs)
all_made P Q R f [] step ps qs = tt
all_made P Q R f (x ∷ xs) step ps qs = by_found (f x) refl (λ rest. all_made P Q R f xs step ps.1 rest) qs
  where
    by_found : (found : Option _) → f x ≡ found
        → (AllByRecursion Q (filter_map f xs) → AllByRecursion R (filter_map f xs))
        → AllByRecursion Q (cons_option found (filter_map f xs))
        → AllByRecursion R (cons_option found (filter_map f xs))
    by_found None is others all = others all
    by_found (Some y) is others all = (step x y ps.0 is all.0, others all.1)

-- an attribute of the schema
abbrev pub IsWithin : Directory → AttrId × List (List ℕ) → Type 0
IsWithin dir attr = attr.0.0 < length (attrs_of dir.schema)

-- A live parent, a class of the schema, a naming value, and attributes of the schema that aren't the identifier.
pub record IsAddition (dir : Directory) (parent class : ℕ) (name : List ℕ) (values : List (AttrId × List (List ℕ)))
    : Type 0 where
  pub parent_live : is_live dir.objects parent ≡ true
  pub class_within : class < length (classes_of dir.schema)
  pub value : IsValue name
  pub within : AllByRecursion (IsWithin dir) values
  pub attrs : AllByRecursion HasByteAttr values → AllByRecursion (IsPlainAttr dir) values

kept_plain : (dir : Directory) (class : ℕ) (value : List ℕ) (xs : List (ℕ × List (List ℕ)))
    → AllByRecursion (λ x. x.0 < length (attrs_of dir.schema)) xs
    → AllByRecursion (λ x. first_failing (own_checks dir.schema class value x) ≡ None) xs
    → AllByRecursion HasByteAttr (map by_id (filter (λ x. is_value dir.schema class x.0) xs))
    → AllByRecursion (IsPlainAttr dir) (map by_id (filter (λ x. is_value dir.schema class x.0) xs))
kept_plain dir class value [] within each bytes = tt
kept_plain dir class value (x ∷ xs) within each bytes =
    elim (cases_Bool (is_value dir.schema class x.0)) [
      | inl kept ↦
          let own : AllByRecursion IsBytes x.1 × AllByRecursion HasByteAttr
          (map by_id (filter (λ y. is_value dir.schema class y.0) xs)) = rw kept at bytes in
          rw kept (
            plain_is dir class value x (record { within = within.0; bytes = own.0 }) each.0,
            kept_plain dir
                class value xs within.1 each.1 own.1,
          )
      | inr left ↦ rw left (kept_plain dir class value xs within.1 each.1 (rw left at bytes))
    ]

kept_within : (dir : Directory) (class : ℕ) (xs : List (ℕ × List (List ℕ)))
    → AllByRecursion (λ x. x.0 < length (attrs_of dir.schema)) xs
    → AllByRecursion (IsWithin dir) (map by_id (filter (λ x. is_value dir.schema class x.0) xs))
kept_within dir class [] within = tt
kept_within dir class (x ∷ xs) within =
    elim (cases_Bool (is_value dir.schema class x.0)) [
      | inl kept ↦ rw kept (within.0, kept_within dir class xs within.1)
      | inr left ↦ rw left (kept_within dir class xs within.1)
    ]

-- each attribute is one of the schema
all_within : (dir : Directory) (attrs : List (List ℕ × List (List ℕ)))
    → AllByRecursion (λ (x : ℕ × List (List ℕ)). x.0 < length (attrs_of dir.schema))
    (filter_map (ordinary dir.schema) attrs)
all_within dir [] = tt
all_within dir (a ∷ attrs) = by_found (ordinary dir.schema a) refl (all_within dir attrs)
  where
    by_found : (found : Option (ℕ × List (List ℕ))) → ordinary dir.schema a ≡ found
        → AllByRecursion (λ (x : ℕ × List (List ℕ)). x.0 < length (attrs_of dir.schema))
        (filter_map (ordinary dir.schema) attrs)
        → AllByRecursion (λ (x : ℕ × List (List ℕ)). x.0 < length (attrs_of dir.schema))
        (cons_option found (filter_map (ordinary dir.schema) attrs))
    by_found None is others = others
    by_found (Some x) is others = ((ordinary_within dir a x is).0, others)

addition_of : (dir : Directory) (token : Token) (a : Add) (flags : ℕ) → IsSound dir
    → first_failing (add_checks dir token a flags) ≡ None
    → IsAddition dir (parent_number dir token a) (class_number dir a) (new_part a).value
    (new_values dir.schema (class_number dir a) a)
unfolding add_checks parent_named new_class new_values all_ordinary
addition_of dir token a flags sound none =
    let parts = head_holds _ _ none in
    let other = head_holds _ _ parts.1 in
    let parent = head_holds _ _ other.1 in
    let named = both_hold (all_naming_checks dir.schema [] a.attrs) _ parent.1 in
    let class = head_holds _ _ named.1 in
    let no_schema = head_holds _ _ class.1 in
    let typed = head_holds _ _ no_schema.1 in
    let reads = head_holds _ _ typed.1 in
    let own = both_hold (flat_map (own_checks dir.schema (class_number dir a) (new_part a).value)
    (all_ordinary dir.schema a)) _ reads.1 in
    record {
      parent_live = live_or dir token (drop 1 (parts_in a.dn)) (parent_named dir token a) sound.rise refl parent.0;
      class_within = class_or dir.schema (unwrap_or (sent a (codes "objectClass")) []) (new_class dir a) refl class.0;
      value = first_value a parts.0;
      within = kept_within dir (class_number dir a) (filter_map (ordinary dir.schema) a.attrs)
          (all_within dir a.attrs);
      attrs = kept_plain dir (class_number dir a) (new_part a).value (filter_map (ordinary dir.schema) a.attrs)
          (all_within dir a.attrs)
          (each_holds (own_checks dir.schema (class_number dir a) (new_part a).value) (all_ordinary dir.schema a)
          own.0);
    }

same_addition : (p q : ℕ) (c d : ClassId) (n m : List ℕ) (vs ws : List (AttrId × List (List ℕ))) (s t : Option SdParts)
    → act.Add p c n vs s ≡ act.Add q d m ws t → (p ≡ q) × (c ≡ d) × (n ≡ m) × (vs ≡ ws)
same_addition p q c d n m vs ws s t e = (tp, tc, tn, tv)
  where
    tp : p ≡ q
    tp = cc

    tc : c ≡ d
    tc = cc

    tn : n ≡ m
    tn = cc

    tv : vs ≡ ws
    tv = cc

pub addition : (dir : Directory) (token : Token) (parent : ℕ) (class : ClassId) (name : List ℕ)
    (values : List (AttrId × List (List ℕ)))
    (sd : Option SdParts) → IsSound dir → Resolves dir token (act.Add parent class name values sd)
    → IsAddition dir parent class.0 name values
unfolding verdict_of
addition dir token parent class name values sd sound r = by_op r.op r.change r.granted
  where
    by_op : (op : OpValue) → IsChange op → verdict_of dir token op r.settings
        ≡ Granted (act.Add parent class name values sd)
        → IsAddition dir parent class.0 name values
    by_op (AddOf a) change granted =
        let is = granted_is _ _ _ granted in
        let same = same_addition _ _ _ _ _ _ _ _ _ _ is.1 in
        subst (IsAddition dir parent class.0 name) same.3
        (subst (λ (n : List ℕ). IsAddition dir parent class.0 n (new_values dir.schema (class_number dir a) a)) same.2
        (subst (λ (c : ClassId). IsAddition dir parent c.0 (new_part a).value
        (new_values dir.schema (class_number dir a) a)) same.1
        (subst (λ (p : ℕ). IsAddition dir p (class_number dir a) (new_part a).value
        (new_values dir.schema (class_number dir a) a)) same.0
        (addition_of dir token a r.settings.sd_flags sound is.0))))
    by_op (DeleteOf dn) change granted = absurd (by_act (granted_is _ _ _ granted).1)
      where
        by_act : delete_act dir token dn r.settings.tree ≡ act.Add parent class name values sd → ⊥
        by_act e = cc
    by_op (RenameOf x) change granted = absurd (by_act (granted_is _ _ _ granted).1)
      where
        by_act : rename_act dir token x ≡ act.Add parent class name values sd → ⊥
        by_act e = cc
    by_op (ModifyOf m) change granted = absurd (by_act (granted_is _ _ _ granted).1)
      where
        by_act : modify_act dir token m r.settings.sd_flags ≡ act.Add parent class name values sd → ⊥
        by_act e = cc
    by_op Bind change granted = absurd change
    by_op Unbind change granted = absurd change
    by_op (SearchOf s) change granted = absurd change
    by_op (CompareOf c) change granted = absurd change
    by_op Abandon change granted = absurd change
    by_op Extended change granted = absurd change

-- ---- Modify

-- A live object, and items that add, delete or replace values of attributes of the schema that aren't the identifier.
pub record IsModification (dir : Directory) (target : ℕ) (items : List ActItem) : Type 0 where
  pub live : is_live dir.objects target ≡ true
  pub ops : AllByRecursion (λ (item : ActItem). item.op ≤ 2) items
  pub within : AllByRecursion (λ (item : ActItem). item.attr.0 < length (attrs_of dir.schema)) items
  pub attrs : AllByRecursion HasByteItem items → AllByRecursion (IsPlainItem dir) items

item_parts : (schema : List SchemaRecord) (item : Item) (a : ActItem) → act_item schema item ≡ Some a
    → (item.op ≡ a.op) × (item.values ≡ a.values)
item_parts schema item a is =
    elim (cases_Bool (is_descriptor item.attr)) [
      | inl descriptor ↦ absurd (none-some a (rw descriptor at is))
      | inr other ↦ by_place (attr_place schema item.attr) (rw other at is)
    ]
  where
    by_place : (place : Option ℕ) → option_map
        (λ attr. record { op = item.op; attr = record { 0 = attr }; values = item.values }) place ≡ Some a
        → (item.op ≡ a.op) × (item.values ≡ a.values)
    by_place None is' = absurd (none-some a is')
    by_place (Some p) is' =
        let same : record { op = item.op; attr = record { 0 = p }; values = item.values } ≡ a = same_Some _ a is' in
        (ap (λ (x : ActItem). x.op) same, ap (λ (x : ActItem). x.values) same)

item_place : (dir : Directory) (item : Item) (a : ActItem) → act_item dir.schema item ≡ Some a
    → a.attr.0 < length (attrs_of dir.schema)
item_place dir item a is =
    elim (cases_Bool (is_descriptor item.attr)) [
      | inl descriptor ↦ absurd (none-some a (rw descriptor at is))
      | inr other ↦ by_place (attr_place dir.schema item.attr) refl (rw other at is)
    ]
  where
    by_place : (place : Option ℕ) → attr_place dir.schema item.attr ≡ place → option_map
        (λ attr. record { op = item.op; attr = record { 0 = attr }; values = item.values }) place ≡ Some a
        → a.attr.0 < length (attrs_of dir.schema)
    by_place None at is' = absurd (none-some a is')
    by_place (Some p) at is' = subst (λ (x : ActItem). x.attr.0 < length (attrs_of dir.schema))
        (same_Some (record { op = item.op; attr = record { 0 = p }; values = item.values }) a is')
        (place_within dir.schema item.attr p at)

all_ops : (schema : List SchemaRecord) (items : List Item) → AllByRecursion (λ (item : Item). item.op ≤ 2) items
    → AllByRecursion (λ (item : ActItem). item.op ≤ 2) (filter_map (act_item schema) items)
all_ops schema items ops = all_of_filter_map (λ (item : Item). item.op ≤ 2) (λ (item : ActItem). item.op ≤ 2)
    (act_item schema) items
    (λ item a op is. subst (λ (n : ℕ). n ≤ 2) (item_parts schema item a is).0 op) ops

modification_of : (dir : Directory) (token : Token) (m : Modify) (flags : ℕ) → IsSound dir
    → AllByRecursion (λ (item : Item). item.op ≤ 2) m.items
    → first_failing (modify_checks dir token m flags) ≡ None → IsModification dir (number_named dir token m.dn)
    (act_items dir.schema m.items)
unfolding modify_checks act_items
modification_of dir token m flags sound ops none =
    let reads = head_holds _ _ none in
    let seen = head_holds _ _ reads.1 in
    let number = number_named dir token m.dn in
    let items = both_hold (flat_map (item_checks dir number flags m.items) m.items) _ seen.1 in
    record {
      live = named_live dir token m.dn sound.rise seen.0;
      ops = all_ops dir.schema m.items ops;
      within = all_of_filter_map (λ (item : Item). item.op ≤ 2)
          (λ (a : ActItem). a.attr.0 < length (attrs_of dir.schema)) (act_item dir.schema) m.items
          (λ item a op is. item_place dir item a is) ops;
      attrs = all_made (λ (item : Item). first_failing (item_checks dir number flags m.items item) ≡ None) HasByteItem
          (IsPlainItem dir)
          (act_item dir.schema) m.items
          (λ item a holds is bytes. item_plain dir number flags m.items item a
          (subst (AllByRecursion IsBytes) (sym (item_parts dir.schema item a is).1) bytes) holds is)
          (each_holds (item_checks dir number flags m.items) m.items items.0);
    }

same_modification : (a b : ℕ) (xs ys : List ActItem) (s t : Option SdParts) → act.Modify a xs s ≡ act.Modify b ys t
    → (a ≡ b) × (xs ≡ ys)
same_modification a b xs ys s t e = (ta, tx)
  where
    ta : a ≡ b
    ta = cc

    tx : xs ≡ ys
    tx = cc

pub modification : (dir : Directory) (token : Token) (target : ℕ) (items : List ActItem) (sd : Option SdParts)
    → IsSound dir
    → Resolves dir token (act.Modify target items sd) → IsModification dir target items
unfolding verdict_of
modification dir token target items sd sound r = by_op r.op r.change r.granted
  where
    by_op : (op : OpValue) → IsChange op → verdict_of dir token op r.settings ≡ Granted (act.Modify target items sd)
        → IsModification dir target items
    by_op (ModifyOf m) change granted =
        let is = granted_is _ _ _ granted in
        let same = same_modification _ _ _ _ _ _ is.1 in
        subst (IsModification dir target) same.1
        (subst (λ (t : ℕ). IsModification dir t (act_items dir.schema m.items)) same.0
        (modification_of dir token m r.settings.sd_flags sound change is.0))
    by_op (DeleteOf dn) change granted = absurd (by_act (granted_is _ _ _ granted).1)
      where
        by_act : delete_act dir token dn r.settings.tree ≡ act.Modify target items sd → ⊥
        by_act e = cc
    by_op (AddOf a) change granted = absurd (by_act (granted_is _ _ _ granted).1)
      where
        by_act : add_act dir token a r.settings.sd_flags ≡ act.Modify target items sd → ⊥
        by_act e = cc
    by_op (RenameOf x) change granted = absurd (by_act (granted_is _ _ _ granted).1)
      where
        by_act : rename_act dir token x ≡ act.Modify target items sd → ⊥
        by_act e = cc
    by_op Bind change granted = absurd change
    by_op Unbind change granted = absurd change
    by_op (SearchOf s) change granted = absurd change
    by_op (CompareOf c) change granted = absurd change
    by_op Abandon change granted = absurd change
    by_op Extended change granted = absurd change
