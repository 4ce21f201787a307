-- A Modify whose checks hold keeps a directory sound.
use Rattle.std.proofs.Common.{◌≡◌, ℕ, ◌<◌, ◌≤◌, true, false, List, [], ◌∷◌, length, Option, Some, None, inl, inr}
use Rattle.std.proofs.Common.{refl, sym, subst, ap, ◌∙◌}
use Rattle.std.specs.Prelude.{nat_eq, not, codes, option_map}
use Rattle.std.specs.List.{AllByRecursion, flat_map}
use Rattle.std.specs.Option.{option_map_or, option_and_then}
use Rattle.std.proofs.lemmas.Bool.{cases_Bool, eqb-true, eqb-false, ne_eqb, leb-true, not-true, or_parts}
use Rattle.std.proofs.lemmas.Option.{none-some, same_Some}
use Rattle.ad_bytes.specs.Reading.{IsBytes}
use Rattle.ad_ids.specs.declared.token.Token.{Token}
use Rattle.ad_sd.specs.declared.parts.Sd.{Sd}
use Rattle.ad_sd.specs.declared.parts.SdParts.{SdParts}
use Rattle.ad_ldap.specs.declared.items.Item.{Item}
use Rattle.ad_ldap.specs.declared.requests.Modify.{Modify}
use Rattle.ad_value.specs.Value.{Value}
use Rattle.ad_value.specs.ValueOf.{sid_of}
use Rattle.ad_schema.specs.Attributes.{attrs_of}
use Rattle.ad_schema.specs.Meaning.{attr_is_back_link}
use Rattle.ad_schema_classes.specs.Names.{same_name}
use Rattle.ad_dir_objects.specs.declared.act.ActItem.{ActItem}
use Rattle.ad_dir_model.specs.Limits.{max_weight}
use Rattle.ad_dir_model.specs.Object.{Stored, Held, Object, stored_in, first_plain, links_in}
use Rattle.ad_dir_model.specs.Objects.{Rise, is_live, object_at, put}
use Rattle.ad_dir_model.specs.Attributes.{attr_place, object_sid}
use Rattle.ad_dir_model.specs.Identity.{first_of_attr, sid_in, self_sid}
use Rattle.ad_dir_model.specs.Directory.{Directory, with_objects}
use Rattle.ad_dir_model.specs.Weight.{weight}
use Rattle.ad_dir_model.specs.Soundness.{IsSoundObject, IsSound}
use Rattle.ad_dir_model.specs.Conditions.{MayReplace}
use Rattle.ad_dir_model.proofs.Finding.{at_number, live-put}
use Rattle.ad_dir_model.proofs.ScratchLaws.{sound_at}
use Rattle.ad_dir_model.proofs.Placing.{all_live_more}
use Rattle.ad_dir_model.proofs.Frames.{weight_settled}
use Rattle.ad_dir_model.proofs.WithValues.{stored_other}
use Rattle.ad_dir_model.proofs.AdminCount.{place_within}
use Rattle.ad_dir_model.proofs.Writing.{changed_sound, written_sound}
use Rattle.ad_needs_rules.specs.Checks.{first_failing}
use Rattle.ad_needs_rules.specs.Requests.{number_named, is_descriptor, has_place}
use Rattle.ad_needs_rules.specs.Modifying.{is_unwritable, ordinary_checks, item_checks, act_item, act_items, written_sd}
use Rattle.ad_needs_rules.specs.Modifying.{modify_checks}
use Rattle.ad_needs_rules.proofs.FirstFailing.{head_holds, both_hold, each_holds}
use Rattle.ad_needs_rules.proofs.Named.{named_live}
use Rattle.ad_change_values.specs.Values.{all_stored, is_among}
use Rattle.ad_change.specs.Tree.{fits_weight_limit}
use Rattle.ad_change_values.specs.Items.{taken_from, values_after, without, with_these, after_item, after_items}
use Rattle.ad_change_values.specs.Items.{all_item_checks, final_checks}
use Rattle.ad_change_values.proofs.HeldLaws.{rise_without}
use Rattle.ad_change.specs.Modifying.{with_parts, modified_object, modify_later}
use Rattle.ad_change.specs.Modifying.{modify_made}
use Rattle.ad_change.proofs.Contents.{ReadsBack, IsGood, IsGoodHeld, AreGood, all_of_filter_map, all_of_filter}
use Rattle.ad_change.proofs.Contents.{all_of_both, all_stored_good, good_held, held_each, held_links}
use Rattle.ad_change.proofs.Contents.{stored_are_good, with_good}

-- ---- the items

-- an attribute of the schema, which isn't the identifier's, with bytes as values
pub record IsPlainItem (dir : Directory) (item : ActItem) : Type 0 where
  pub within : item.attr.0 < length (attrs_of dir.schema)
  pub not_sid : (sid : ℕ) → object_sid dir.schema ≡ Some sid → item.attr.0 ≡ sid → ⊥
  pub bytes : AllByRecursion IsBytes item.values

-- ---- values

without_good : (dir : Directory) (attr : ℕ) (values : List Held) → AreGood dir values
    → AreGood dir (without attr values)
unfolding without
without_good dir attr values good = record {
  rise = rise_without attr 0 values good.rise;
  each = all_of_filter (IsGoodHeld dir) (λ (h : Held). not (nat_eq h.attr attr)) values good.each;
}

these_good : (dir : Directory) (attr : ℕ) (new : List Stored) (values : List Held)
    → attr < length (attrs_of dir.schema) → AllByRecursion (IsGood dir attr) new → AreGood dir values
    → AreGood dir (with_these attr new values)
these_good dir attr [] values within each good = without_good dir attr values good
these_good dir attr (first ∷ others) values within each good = with_good dir attr first others values within each good

taken_good : (dir : Directory) (attr : ℕ) (values new : List Stored) → AllByRecursion (IsGood dir attr) values
    → AllByRecursion (IsGood dir attr) (taken_from values new)
taken_good dir attr values [] each = tt
taken_good dir attr values (first ∷ others) each = all_of_filter (IsGood dir attr)
    (λ (v : Stored). not (is_among (first ∷ others) v)) values each

after_good : (dir : Directory) (attr op : ℕ) (new values : List Stored) → AllByRecursion (IsGood dir attr) new
    → AllByRecursion (IsGood dir attr) values → AllByRecursion (IsGood dir attr) (values_after op new values)
unfolding values_after
after_good dir attr op new values each old =
    elim (cases_Bool (nat_eq op 0)) [
      | inl adds ↦ rw adds (all_of_both (IsGood dir attr) values new old each)
      | inr other ↦ elim (cases_Bool (nat_eq op 1)) [
        | inl deletes ↦ rw (other, deletes) (taken_good dir attr values new old)
        | inr puts ↦ rw (other, puts) each
      ]
    ]

item_good : ReadsBack → (dir : Directory) (values : List Held) (item : ActItem) → Rise dir.objects
    → IsPlainItem dir item → AreGood dir values → AreGood dir (after_item dir values item)
unfolding after_item
item_good back dir values item rise is good =
    these_good dir item.attr.0 (values_after item.op (all_stored dir item.attr.0 item.values)
    (stored_in values item.attr.0)) values is.within
    (after_good dir item.attr.0 item.op (all_stored dir item.attr.0 item.values) (stored_in values item.attr.0)
    (all_stored_good back dir item.attr.0 item.values rise is.bytes) (stored_are_good dir item.attr.0 values good.each))
    good

items_good : ReadsBack → (dir : Directory) (values : List Held) (items : List ActItem) → Rise dir.objects
    → AllByRecursion (IsPlainItem dir) items → AreGood dir values → AreGood dir (after_items dir values items)
unfolding after_items
items_good back dir values [] rise are good = good
items_good back dir values (item ∷ items) rise are good = items_good back dir
    (after_item dir values item) items rise are.1 (item_good back dir values item rise are.0 good)

-- ---- the identifier stays

stored_without : (attr other : ℕ) (values : List Held) → (attr ≡ other → ⊥) → stored_in (without attr values) other
    ≡ stored_in values other
unfolding without stored_in
stored_without attr other [] apart = refl
stored_without attr other (h ∷ hs) apart =
    elim (cases_Bool (nat_eq h.attr attr)) [
      | inl here ↦
          let e : h.attr ≡ attr = eqb-true h.attr attr here in
          let not_other : nat_eq h.attr other ≡ false
          = ne_eqb h.attr other (λ (f : h.attr ≡ other). apart (sym e ∙ f)) in
          rw (here, not_other) (stored_without attr other hs apart)
      | inr differ ↦ elim (cases_Bool (nat_eq h.attr other)) [
        | inl is_other ↦ rw (differ, is_other) refl
        | inr neither ↦ rw (differ, neither) (stored_without attr other hs apart)
      ]
    ]

stored_these : (attr other : ℕ) (new : List Stored) (values : List Held) → (attr ≡ other → ⊥)
    → stored_in (with_these attr new values) other ≡ stored_in values other
stored_these attr other [] values apart = stored_without attr other values apart
stored_these attr other (first ∷ others) values apart = stored_other attr other (first ∷ others) values apart

stored_items : (dir : Directory) (sid : ℕ) (values : List Held) (items : List ActItem)
    → object_sid dir.schema ≡ Some sid → AllByRecursion (IsPlainItem dir) items
    → stored_in (after_items dir values items) sid ≡ stored_in values sid
unfolding after_items after_item
stored_items dir sid values [] is are = refl
stored_items dir sid values (item ∷ items) is are =
    stored_items dir sid (after_item dir values item) items is are.1
    ∙ stored_these item.attr.0 sid (values_after item.op (all_stored dir item.attr.0 item.values)
    (stored_in values item.attr.0)) values (are.0.not_sid sid is)

abbrev pub with_all : Object → List Held → Sd → Object
with_all o values sd = record o { values = values; sd = sd }

sid_after : (dir : Directory) (o : Object) (items : List ActItem) (sd : Sd) → AllByRecursion (IsPlainItem dir) items
    → sid_in dir.schema (with_all o (after_items dir o.values items) sd) ≡ sid_in dir.schema o
unfolding sid_in first_of_attr
sid_after dir o items sd are = by_attr (object_sid dir.schema) refl
  where
    by_attr : (attr : Option ℕ) → object_sid dir.schema ≡ attr
        → option_and_then (λ (value : Value). sid_of value.shown)
        (option_and_then (λ (place : ℕ). first_plain (stored_in (after_items dir o.values items) place)) attr)
        ≡ option_and_then (λ (value : Value). sid_of value.shown)
        (option_and_then (λ (place : ℕ). first_plain (stored_in o.values place)) attr)
    by_attr None is = refl
    by_attr (Some attr) is = ap (λ (values : List Stored). option_and_then (λ (value : Value). sid_of value.shown)
        (first_plain values)) (stored_items dir attr o.values items is are)

-- ---- the object

pub may_replace : ReadsBack → (dir : Directory) (number : ℕ) (items : List ActItem) (sd : Sd) → IsSound dir
    → is_live dir.objects number ≡ true → AllByRecursion (IsPlainItem dir) items
    → fits_weight_limit dir (modified_object dir number items) ≡ true
    → MayReplace dir (with_all (object_at dir.objects number)
    (after_items dir (object_at dir.objects number).values items) sd)
unfolding fits_weight_limit
may_replace back dir number items sd sound live are light = record {
  live = subst (λ (k : ℕ). is_live dir.objects k ≡ true) (sym is) live;
  fits = record {
    content = record {
      class_of_schema = old.content.class_of_schema;
      name = old.content.name;
      attrs_rise = good.rise;
      each = held_each dir values good.each;
    };
    links = all_live_more dir.objects (put new dir.objects) (links_in values) (live-put new dir.objects)
        (held_links dir values good.each);
    own_name = old.own_name;
    own_sid = λ m other sid at has own. old.own_sid m other sid at has (sym (sid_after dir o items sd are) ∙ own);
  };
  same_sid = sid_after dir o items sd are ∙ ap (λ (k : ℕ). self_sid dir k) (sym is);
  weight = subst (λ (w : ℕ). w ≤ max_weight) (sym (weight_settled dir (modified_object dir number items) sd))
      (leb-true (weight (with_objects (put (modified_object dir number items) dir.objects) dir)) max_weight light);
}
  where
    o : Object
    o = object_at dir.objects number

    values : List Held
    values = after_items dir (object_at dir.objects number).values items

    new : Object
    new = with_all (object_at dir.objects number) (after_items dir (object_at dir.objects number).values items) sd

    is : (object_at dir.objects number).number ≡ number
    is = at_number dir.objects number live

    old : IsSoundObject dir (object_at dir.objects number)
    old = sound_at dir sound.each number live

    good : AreGood dir (after_items dir (object_at dir.objects number).values items)
    good = items_good back dir o.values items sound.rise are
        (record { rise = old.content.attrs_rise; each = good_held dir o.values old.content.each old.links })

pub modify_is_sound : ReadsBack → (dir : Directory) (token : Token) (number : ℕ) (items : List ActItem)
    (sd : Option SdParts) → IsSound dir → is_live dir.objects number ≡ true
    → AllByRecursion (IsPlainItem dir) items → first_failing (modify_later dir token number items sd) ≡ None
    → IsSound (modify_made dir number items sd)
unfolding modify_later modify_made
modify_is_sound back dir token number items sd sound live are none =
    let o : Object = object_at dir.objects number in
    let owner = head_holds _ _ none in
    let behind = both_hold (all_item_checks dir o.values items) _ owner.1 in
    let final = both_hold (flat_map (final_checks dir.schema o.class (after_items dir o.values items)) _) _ behind.1 in
    by_sd sd (head_holds _ _ final.1).0
  where
    at : object_at dir.objects number ≡ object_at dir.objects (object_at dir.objects number).number
    at = ap (object_at dir.objects) (sym (at_number dir.objects number live))

    by_sd : (parts : Option SdParts) → fits_weight_limit dir (modified_object dir number items) ≡ true
        → IsSound (modify_made dir number items parts)
    by_sd None light = changed_sound dir (modified_object dir number items) sound
        (may_replace back dir number items (object_at dir.objects number).sd sound live are light)
        (ap (λ (x : Object). x.parent) at)
        (record { class = ap (λ (x : Object). x.class) at; sd = ap (λ (x : Object). x.sd) at })
    by_sd (Some parts) light = written_sound dir (with_all (object_at dir.objects number)
        (after_items dir (object_at dir.objects number).values items)
        (with_parts parts (object_at dir.objects number).sd)) sound
        (may_replace back dir number items (with_parts parts (object_at dir.objects number).sd) sound live are light)
        (ap (λ (x : Object). x.parent) at)

-- ---- what the checks up to the required rights say

-- items with bytes as values
abbrev pub HasBytes : Item → Type 0
HasBytes item = AllByRecursion IsBytes item.values

pub item_plain : (dir : Directory) (number flags : ℕ) (items : List Item) (item : Item) (a : ActItem) → HasBytes item
    → first_failing (item_checks dir number flags items item) ≡ None → act_item dir.schema item ≡ Some a
    → IsPlainItem dir a
item_plain dir number flags items item a bytes none is =
    elim (cases_Bool (is_descriptor item.attr)) [
      | inl descriptor ↦ absurd (none-some a (rw descriptor at is))
      | inr other ↦ by_place (attr_place dir.schema item.attr) refl (rw other at none) (rw other at is)
    ]
  where
    free : (place : Option ℕ) → attr_place dir.schema item.attr ≡ place → is_unwritable dir.schema item.attr ≡ false
        → (p : ℕ) → place ≡ Some p → (sid : ℕ) → object_sid dir.schema ≡ Some sid → p ≡ sid → ⊥
    free place at writable p is' sid own same =
        let first = or_parts (same_name item.attr (codes "distinguishedName")) _ writable in
        let second = or_parts (same_name item.attr (codes "name")) _ first.1 in
        let third = or_parts (has_place dir.schema (λ attr. option_map_or (λ s. nat_eq s attr)
        (object_sid dir.schema) false) item.attr) (has_place dir.schema (attr_is_back_link dir.schema) item.attr)
        second.1 in
        let here : option_map_or (λ s. nat_eq s p) (object_sid dir.schema) false ≡ false = rw (at ∙ is') at third.0 in
        let apart : nat_eq sid p ≡ false = rw own at here in
        eqb-false sid p apart (sym same)

    by_place : (place : Option ℕ) → attr_place dir.schema item.attr ≡ place
        → first_failing (ordinary_checks dir number items item) ≡ None
        → option_map (λ attr. record { op = item.op; attr = record { 0 = attr }; values = item.values }) place
        ≡ Some a → IsPlainItem dir a
    by_place None at none' is' = absurd (none-some a is')
    by_place (Some p) at none' is' =
        let known = head_holds _ _ none' in
        let no_class = head_holds _ _ known.1 in
        let no_naming = head_holds _ _ no_class.1 in
        let writable = head_holds _ _ no_naming.1 in
        subst (IsPlainItem dir) (same_Some (record { op = item.op; attr = record { 0 = p }; values = item.values }) a
        is') (record {
          within = place_within dir.schema item.attr p at;
          not_sid = free (Some p) at (not-true (is_unwritable dir.schema item.attr) writable.0) p refl;
          bytes = bytes;
        })

items_plain : (dir : Directory) (number flags : ℕ) (all items : List Item) → AllByRecursion HasBytes items
    → AllByRecursion (λ (item : Item). first_failing (item_checks dir number flags all item) ≡ None) items
    → AllByRecursion (IsPlainItem dir) (act_items dir.schema items)
unfolding act_items
items_plain dir number flags all items bytes each =
    all_of_filter_map (λ (item : Item). HasBytes item × (first_failing (item_checks dir number flags all item)
    ≡ None)) (IsPlainItem dir) (act_item dir.schema) items
    (λ item a known is. item_plain dir number flags all item a known.0 known.1 is) (together items bytes each)
  where
    together : (xs : List Item) → AllByRecursion HasBytes xs
        → AllByRecursion (λ (item : Item). first_failing (item_checks dir number flags all item) ≡ None) xs
        → AllByRecursion (λ (item : Item). HasBytes item
        × (first_failing (item_checks dir number flags all item) ≡ None)) xs
    together [] bs es = tt
    together (x ∷ xs) bs es = ((bs.0, es.0), together xs bs.1 es.1)

pub modified_is_sound : ReadsBack → (dir : Directory) (token : Token) (m : Modify) (flags : ℕ) → IsSound dir
    → AllByRecursion HasBytes m.items → first_failing (modify_checks dir token m flags) ≡ None
    → first_failing (modify_later dir token (number_named dir token m.dn) (act_items dir.schema m.items)
    (written_sd m.items flags)) ≡ None
    → IsSound (modify_made dir (number_named dir token m.dn) (act_items dir.schema m.items) (written_sd m.items flags))
unfolding modify_checks
modified_is_sound back dir token m flags sound bytes none later =
    let reads = head_holds _ _ none in
    let seen = head_holds _ _ reads.1 in
    let number = number_named dir token m.dn in
    let items = both_hold (flat_map (item_checks dir number flags m.items) m.items) _ seen.1 in
    modify_is_sound back dir token number (act_items dir.schema m.items) (written_sd m.items flags) sound
    (named_live dir token m.dn sound.rise seen.0)
    (items_plain dir number flags m.items m.items bytes
    (each_holds (item_checks dir number flags m.items) m.items items.0)) later
