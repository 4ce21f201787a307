-- An Add whose checks hold keeps a directory sound.
use Rattle.std.proofs.Common.{◌≡◌, ℕ, suc, ◌<◌, ◌≤◌, Bool, true, false, List, [], ◌∷◌, length, Option, Some, None}
use Rattle.std.proofs.Common.{inl, inr, refl, sym, subst, ap, arith, ◌∙◌}
use Rattle.std.specs.Prelude.{◌&&◌, ◌||◌, nat_eq, nat_le, nat_lt, not, filter, filter_map, find, map, codes}
use Rattle.std.specs.Prelude.{option_map, is_some, is_none, unwrap_or, slice_get, drop, IfSome}
use Rattle.std.specs.List.{AllByRecursion, flat_map}
use Rattle.std.specs.Option.{option_map_or, option_and_then}
use Rattle.std.proofs.lemmas.Bool.{cases_Bool, eqb-false, eq-eqb, leb-true, ltb-true, not-true, or_parts, and_parts}
use Rattle.std.proofs.lemmas.Bool.{and_from, both_ways, false≢true}
use Rattle.std.proofs.lemmas.Option.{none-some, same_Some, cond_some, option_and_then_some, slice_get_within}
use Rattle.std.proofs.lemmas.Slice.Eq.{bytes_eq-Decides}
use Rattle.ad_bytes.specs.Reading.{IsBytes}
use Rattle.ad_ids.specs.SidValue.{SidValue}
use Rattle.ad_ids.specs.Sid.{IsSid, sid_bytes}
use Rattle.ad_ids.specs.declared.token.Token.{Token}
use Rattle.ad_dn.specs.declared.rdn.Rdn.{Rdn}
use Rattle.ad_dn.specs.declared.rdn.Dn.{Dn}
use Rattle.ad_dn.specs.Value.{IsValue, AreRdns}
use Rattle.ad_dn.specs.Fold.{folded}
use Rattle.ad_dn.specs.Reading.{dn_of}
use Rattle.ad_dn.proofs.ReadOff.{dn_read}
use Rattle.ad_dn.proofs.Spelled.{spelled_are}
use Rattle.ad_sd.specs.declared.parts.SdParts.{SdParts}
use Rattle.ad_ldap.specs.declared.requests.Add.{Add}
use Rattle.ad_value.specs.Value.{Value, as_shown}
use Rattle.ad_value.specs.ValueOf.{sid_of}
use Rattle.ad_schema.specs.declared.line.SchemaRecord.{SchemaRecord}
use Rattle.ad_schema.specs.declared.info.AttrId.{AttrId}
use Rattle.ad_schema.specs.declared.info.ClassInfo.{ClassInfo}
use Rattle.ad_schema.specs.Attributes.{attrs_of}
use Rattle.ad_schema.specs.Classes.{classes_of}
use Rattle.ad_schema.specs.declared.meaning.RuleAttr.TheVariants as rule
use Rattle.ad_schema.specs.Meaning.{attr_is_back_link}
use Rattle.ad_dir_model.specs.Limits.{max_depth, max_objects, max_weight, max_counter}
use Rattle.ad_dir_model.specs.Object.{Stored, plain, Held, Object, stored_in, first_plain, links_in}
use Rattle.ad_dir_model.specs.Objects.{Rise, is_live, put}
use Rattle.ad_dir_model.specs.Attributes.{attr_place, is_named, object_sid}
use Rattle.ad_dir_model.specs.Identity.{first_of_attr, sid_in}
use Rattle.ad_dir_model.specs.Directory.{Directory, parents, with_objects}
use Rattle.ad_dir_model.specs.Names.{same_folded, is_child_named, child_named}
use Rattle.ad_dir_model.specs.Changes.{new_sid, with_new_sid, numbered, added}
use Rattle.ad_dir_model.specs.Weight.{weight}
use Rattle.ad_dir_model.specs.Soundness.{HasOwnName, IsSound}
use Rattle.ad_dir_model.proofs.Finding.{live-put, none_found}
use Rattle.ad_dir_model.proofs.Placing.{all_live_more}
use Rattle.ad_dir_model.proofs.WithValues.{stored_same, stored_other}
use Rattle.ad_dir_model.proofs.AdminCount.{place_within, rule_is_named}
use Rattle.ad_dir_model.proofs.Adding.{new_sid_is, added_sound}
use Rattle.ad_needs_rules.specs.Checks.{first_failing}
use Rattle.ad_needs_rules.specs.Requests.{parts_in, is_descriptor}
use Rattle.ad_schema_defaults.specs.NewClass.{is_structural, if_structural, lowest_of, classes_named, class_by_names}
use Rattle.ad_needs_rules.specs.Adding.{first_part, new_part, has_parts, parent_named, parent_number}
use Rattle.ad_needs_rules.specs.Adding.{all_naming_checks, sent, new_class, class_number, new_sd, ordinary}
use Rattle.ad_needs_rules.specs.Adding.{all_ordinary, is_kept_back, own_checks, is_value, by_id, new_values, add_checks}
use Rattle.ad_needs_rules.proofs.FirstFailing.{head_holds, both_hold, each_holds}
use Rattle.ad_needs_rules.proofs.Named.{live_or}
use Rattle.ad_change_values.specs.Values.{all_stored}
use Rattle.ad_change.specs.Tree.{depth_within, depth_of, fits_weight_limit}
use Rattle.ad_change.specs.Adding.{held_before, all_held, new_object, attr_checks, fits_in, add_later, add_made}
use Rattle.ad_change.proofs.DepthLaws.{depth_chain}
use Rattle.ad_change.proofs.Contents.{ReadsBack, IsGood, AreGood, all_of_filter_map, all_stored_good, held_each}
use Rattle.ad_change.proofs.Contents.{held_links, with_good}
use Rattle.ad_change.proofs.NewSid.{SidsRead, HasDomain, bytes_again, sid_good, domain_child_is}

-- ---- the attributes

-- an attribute of the schema, which isn't the identifier's, with bytes as values
pub record IsPlainAttr (dir : Directory) (attr : AttrId × List (List ℕ)) : Type 0 where
  pub within : attr.0.0 < length (attrs_of dir.schema)
  pub not_sid : (sid : ℕ) → object_sid dir.schema ≡ Some sid → attr.0.0 ≡ sid → ⊥
  pub bytes : AllByRecursion IsBytes attr.1

before_good : (dir : Directory) (attr : ℕ) (new : List Stored) (others : List Held)
    → attr < length (attrs_of dir.schema) → AllByRecursion (IsGood dir attr) new → AreGood dir others
    → AreGood dir (held_before attr new others)
before_good dir attr [] others within each good = good
before_good dir attr (first ∷ new) others within each good = with_good dir attr first new others within each good

held_good : ReadsBack → (dir : Directory) (values : List (AttrId × List (List ℕ))) → Rise dir.objects
    → AllByRecursion (IsPlainAttr dir) values → AreGood dir (all_held dir values)
unfolding all_held
held_good back dir [] rise are = record { rise = tt; each = tt }
held_good back dir (attr ∷ attrs) rise are =
    before_good dir attr.0.0 (all_stored dir attr.0.0 attr.1) (all_held dir attrs) are.0.within
    (all_stored_good back dir attr.0.0 attr.1 rise are.0.bytes) (held_good back dir attrs rise are.1)

stored_before : (attr other : ℕ) (new : List Stored) (others : List Held) → (attr ≡ other → ⊥)
    → stored_in (held_before attr new others) other ≡ stored_in others other
stored_before attr other [] others apart = refl
stored_before attr other (first ∷ new) others apart = stored_other attr other (first ∷ new) others apart

no_sid_held : (dir : Directory) (sid : ℕ) (values : List (AttrId × List (List ℕ)))
    → object_sid dir.schema ≡ Some sid → AllByRecursion (IsPlainAttr dir) values
    → stored_in (all_held dir values) sid ≡ []
unfolding all_held stored_in
no_sid_held dir sid [] is are = refl
no_sid_held dir sid (attr ∷ attrs) is are = stored_before attr.0.0 sid (all_stored dir attr.0.0 attr.1)
    (all_held dir attrs) (are.0.not_sid sid is) ∙ no_sid_held dir sid attrs is are.1

-- ---- the identifier

-- the attribute and the identifier that an object gets
sid_known : (dir : Directory) (class : ℕ) (s : SidValue) → new_sid dir class ≡ Some s → HasDomain dir
    → IfSome (new_sid dir class) (λ x. dir.meta.next_rid < max_counter) → IsSid s
sid_known dir class s is has fits = domain_child_is dir s dir.meta.next_rid has
    (subst (λ (o : Option SidValue). IfSome o (λ x. dir.meta.next_rid < max_counter)) is fits)
    (new_sid_is dir class s is)

with_sid_good : SidsRead → (dir : Directory) (attr : Option ℕ) (sid : Option SidValue) (values : List Held)
    → object_sid dir.schema ≡ attr → ((s : SidValue) → sid ≡ Some s → IsSid s) → AreGood dir values
    → AreGood dir (with_new_sid attr sid values)
with_sid_good w dir None sid values at is good = good
with_sid_good w dir (Some attr) None values at is good = good
with_sid_good w dir (Some attr) (Some s) values at is good =
    with_good dir attr (plain (as_shown (sid_bytes s))) [] values
    (place_within dir.schema (codes "objectSid") attr (rule_is_named dir.schema rule.ObjectSid attr at))
    (sid_good w dir attr s at (is s refl), tt) good

-- what it is then
sid_of_new : SidsRead → (dir : Directory) (sid : Option SidValue) (values : List Held) (attr : Option ℕ)
    → object_sid dir.schema ≡ attr → ((s : SidValue) → sid ≡ Some s → IsSid s)
    → ((s : SidValue) → attr ≡ None → sid ≡ Some s → ⊥)
    → ((place : ℕ) → attr ≡ Some place → stored_in values place ≡ [])
    → option_and_then (λ (value : Value). sid_of value.shown)
    (option_and_then (λ (place : ℕ). first_plain (stored_in (with_new_sid attr sid values) place)) attr) ≡ sid
sid_of_new w dir None values None at is no_attr no_sid = refl
sid_of_new w dir (Some s) values None at is no_attr no_sid = absurd (no_attr s refl refl)
sid_of_new w dir None values (Some place) at is no_attr no_sid = rw (no_sid place refl) refl
sid_of_new w dir (Some s) values (Some place) at is no_attr no_sid =
    rw (stored_same place (plain (as_shown (sid_bytes s)) ∷ []) values) (bytes_again w s (is s refl))

no_attr_no_sid : (dir : Directory) (class : ℕ) (s : SidValue) → object_sid dir.schema ≡ None → new_sid dir class
    ≡ Some s → ⊥
unfolding new_sid
no_attr_no_sid dir class s none is = none-some s (rw none at is)

-- ---- what fits_in says

pub record Room (dir : Directory) (o : Object) : Type 0 where
  pub few : length dir.objects < max_objects
  pub depth : depth_of (parents dir) o.parent < max_depth
  pub weight : weight (with_objects (put (numbered dir o) dir.objects) dir) ≤ max_weight
  pub number : dir.meta.next_number < max_counter
  pub rid : IfSome (new_sid dir o.class) (λ x. dir.meta.next_rid < max_counter)

pub room_of : (dir : Directory) (o : Object) → fits_in dir o ≡ true → Room dir o
unfolding fits_in fits_weight_limit
room_of dir o fits =
    let one = and_parts (nat_lt (length dir.objects) max_objects) _ fits in
    let two = and_parts (nat_lt (depth_of (parents dir) o.parent) max_depth) _ one.1 in
    let three = and_parts (nat_le (weight (with_objects (put (numbered dir o) dir.objects) dir)) max_weight) _ two.1 in
    let four = and_parts (nat_lt dir.meta.next_number max_counter) _ three.1 in
    record {
      few = ltb-true (length dir.objects) max_objects one.0;
      depth = ltb-true (depth_of (parents dir) o.parent) max_depth two.0;
      weight = leb-true (weight (with_objects (put (numbered dir o) dir.objects) dir)) max_weight three.0;
      number = ltb-true dir.meta.next_number max_counter four.0;
      rid = by_sid (new_sid dir o.class) four.1;
    }
  where
    by_sid : (sid : Option SidValue)
        → option_map_or (λ (x : SidValue). nat_lt dir.meta.next_rid max_counter) sid true ≡ true
        → IfSome sid (λ x. dir.meta.next_rid < max_counter)
    by_sid None is = tt
    by_sid (Some s) is = ltb-true dir.meta.next_rid max_counter is

-- ---- the object

own_name_of : (dir : Directory) (o : Object) (parent : ℕ) (name : List ℕ) → o.parent ≡ parent → o.name ≡ name
    → is_none (child_named dir.objects parent name) ≡ true → HasOwnName dir.objects o
unfolding child_named
own_name_of dir o parent name is_parent is_name none m other is same_parent same_name
    = by_found (find test dir.objects) refl none
  where
    test : Object → Bool
    test x = is_child_named parent name x

    passes : test other ≡ true
    passes = and_from (nat_eq other.parent parent) (same_folded other.name name)
        (eq-eqb other.parent parent (same_parent ∙ is_parent))
        ((bytes_eq-Decides (folded other.name) (folded name)).1 (same_name ∙ ap folded is_name))

    by_found : (r : Option Object) → find test dir.objects ≡ r → is_none r ≡ true → other.number ≡ o.number
    by_found None first none' = absurd (both_ways (test other) (none_found test dir.objects m other first is) passes)
    by_found (Some x) first none' = absurd (false≢true none')

pub add_is_sound : ReadsBack → SidsRead → (dir : Directory) (token : Token) (parent class : ℕ) (name : List ℕ)
    (values : List (AttrId × List (List ℕ))) (sd : Option SdParts)
    → IsSound dir → HasDomain dir → is_live dir.objects parent ≡ true → class < length (classes_of dir.schema)
    → IsValue name → AllByRecursion (IsPlainAttr dir) values
    → is_none (child_named dir.objects parent name) ≡ true
    → fits_in dir (new_object dir token parent class name values sd) ≡ true
    → IsSound (added dir (new_object dir token parent class name values sd))
unfolding new_object depth_of sid_in first_of_attr
add_is_sound back w dir token parent class name values sd sound has live within value are free fits
    = added_sound dir o sound (record {
      parent_live = live;
      parent_depth = depth_of (parents dir) parent;
      parent_at = depth_chain (parents dir) (suc max_depth) parent deep;
      parent_within = room.depth;
      fits = record {
        content = record {
          class_of_schema = within;
          name = value;
          attrs_rise = good.rise;
          each = held_each dir (numbered dir o).values good.each;
        };
        links = all_live_more dir.objects (put (numbered dir o) dir.objects) (links_in (numbered dir o).values)
            (live-put (numbered dir o) dir.objects) (held_links dir (numbered dir o).values good.each);
        own_name = own_name_of dir (numbered dir o) parent name refl refl free;
        own_sid = λ m other s is theirs own.
            let gets : new_sid dir class ≡ Some s = sym own_is ∙ own in
            let less : dir.meta.next_rid < dir.meta.next_rid = sound.frame.counters.rid_above m other
            dir.meta.next_rid s is theirs (new_sid_is dir class s gets) in
            absurd (omega arith);
      };
      sid = own_is;
      few = room.few;
      weight = room.weight;
      number_fits = room.number;
      rid_fits = room.rid;
    })
  where
    o : Object
    o = new_object dir token parent class name values sd

    room : Room dir (new_object dir token parent class name values sd)
    room = room_of dir (new_object dir token parent class name values sd) fits

    deep : depth_within (parents dir) (suc max_depth) parent < suc max_depth
    deep = let less : depth_of (parents dir) parent < max_depth = room.depth in omega arith

    known : (s : SidValue) → new_sid dir class ≡ Some s → IsSid s
    known s is = sid_known dir class s is has room.rid

    good : AreGood dir (with_new_sid (object_sid dir.schema) (new_sid dir class) (all_held dir values))
    good = with_sid_good w dir (object_sid dir.schema) (new_sid dir class) (all_held dir values) refl known
        (held_good back dir values sound.rise are)

    own_is : sid_in dir.schema (numbered dir o) ≡ new_sid dir class
    own_is = sid_of_new w dir (new_sid dir class) (all_held dir values) (object_sid dir.schema) refl known
        (λ s none is. no_attr_no_sid dir class s none is) (λ place is. no_sid_held dir place values is are)

-- ---- what the checks up to the required rights say

-- the class is one of the schema
structural_within : (schema : List SchemaRecord) (class n : ℕ) → if_structural schema class ≡ Some n → n
    < length (classes_of schema)
unfolding if_structural is_structural
structural_within schema class n is =
    let parts = cond_some (option_map_or (λ (info : ClassInfo). not (nat_eq info.category 2)
    && not (nat_eq info.category 3)) (slice_get (classes_of schema) class) false) class n is in
    subst (λ (k : ℕ). k < length (classes_of schema)) parts.1
    (by_info (slice_get (classes_of schema) class) refl parts.0)
  where
    by_info : (info : Option ClassInfo) → slice_get (classes_of schema) class ≡ info
        → option_map_or (λ (i : ClassInfo). not (nat_eq i.category 2) && not (nat_eq i.category 3)) info false
        ≡ true → class < length (classes_of schema)
    by_info None at is' = absurd (false≢true is')
    by_info (Some i) at is' = slice_get_within (classes_of schema) class i at

class_within : (schema : List SchemaRecord) (names : List (List ℕ)) (n : ℕ) → class_by_names schema names ≡ Some n → n
    < length (classes_of schema)
unfolding class_by_names
class_within schema names n is =
    option_and_then_some (if_structural schema) (option_and_then (lowest_of schema)
    (classes_named schema names)) n is (λ (class : ℕ) first there. structural_within schema class n there)

pub class_or : (schema : List SchemaRecord) (names : List (List ℕ)) (class : Option ℕ)
    → class_by_names schema names ≡ class → is_some class ≡ true → unwrap_or class 0 < length (classes_of schema)
class_or schema names None is some = absurd (false≢true some)
class_or schema names (Some n) is some = class_within schema names n is

-- the first part has a value
pub first_value : (a : Add) → has_parts a ≡ true → IsValue (new_part a).value
first_value a has = by_dn (dn_of a.dn) refl has
  where
    of : Option Dn → List Rdn
    of dn = unwrap_or (option_map (λ (d : Dn). d.rdns) dn) []

    by_rdns : (rdns : List Rdn) → AreRdns rdns → not (nat_eq (length rdns) 0) ≡ true → IsValue (first_part rdns).value
    by_rdns [] are some = absurd (false≢true some)
    by_rdns (rdn ∷ rdns) are some = are.0.value

    by_dn : (dn : Option Dn) → dn_of a.dn ≡ dn → not (nat_eq (length (of dn)) 0) ≡ true
        → IsValue (first_part (of dn)).value
    by_dn None is some = absurd (false≢true some)
    by_dn (Some dn) is some = by_rdns dn.rdns (spelled_are dn.rdns a.dn (dn_read a.dn dn is)) some

-- the attributes

abbrev pub HasByteValues : List ℕ × List (List ℕ) → Type 0
HasByteValues attr = AllByRecursion IsBytes attr.1

pub record IsOrdinary (dir : Directory) (attr : ℕ × List (List ℕ)) : Type 0 where
  pub within : attr.0 < length (attrs_of dir.schema)
  pub bytes : AllByRecursion IsBytes attr.1

pub ordinary_within : (dir : Directory) (attr : List ℕ × List (List ℕ)) (x : ℕ × List (List ℕ))
    → ordinary dir.schema attr ≡ Some x → (x.0 < length (attrs_of dir.schema)) × (attr.1 ≡ x.1)
ordinary_within dir attr x is =
    elim (cases_Bool (is_descriptor attr.0)) [
      | inl descriptor ↦ absurd (none-some x (rw descriptor at is))
      | inr other ↦ by_place (attr_place dir.schema attr.0) refl (rw other at is)
    ]
  where
    by_place : (place : Option ℕ) → attr_place dir.schema attr.0 ≡ place → option_map (λ (p : ℕ). (p, attr.1)) place
        ≡ Some x
        → (x.0 < length (attrs_of dir.schema)) × (attr.1 ≡ x.1)
    by_place None at is' = absurd (none-some x is')
    by_place (Some p) at is' = subst (λ (y : ℕ × List (List ℕ)). (y.0 < length (attrs_of dir.schema)) × (attr.1 ≡ y.1))
        (same_Some (p, attr.1) x is') (place_within dir.schema attr.0 p at, refl)

ordinary_is : (dir : Directory) (attr : List ℕ × List (List ℕ)) (x : ℕ × List (List ℕ)) → HasByteValues attr
    → ordinary dir.schema attr ≡ Some x → IsOrdinary dir x
ordinary_is dir attr x bytes is =
    let parts = ordinary_within dir attr x is in
    record { within = parts.0; bytes = subst (AllByRecursion IsBytes) parts.1 bytes }

pub plain_is : (dir : Directory) (class : ℕ) (value : List ℕ) (x : ℕ × List (List ℕ)) → IsOrdinary dir x
    → first_failing (own_checks dir.schema class value x) ≡ None → IsPlainAttr dir (by_id x)
plain_is dir class value x is none = record {
  within = is.within;
  not_sid = λ sid own e.
      let free : is_kept_back dir.schema x.0 ≡ false = not-true (is_kept_back dir.schema x.0) (head_holds _ _ none).0 in
      let first : option_map_or (λ s. nat_eq s x.0) (object_sid dir.schema) false
      ≡ false = (or_parts (option_map_or (λ s. nat_eq s x.0) (object_sid dir.schema) false)
      (is_named dir.schema (codes "distinguishedName") x.0 || attr_is_back_link dir.schema x.0) free).0 in
      let apart : nat_eq sid x.0 ≡ false = rw own at first in
      eqb-false sid x.0 apart (sym e);
  bytes = is.bytes;
}

all_plain : (dir : Directory) (class : ℕ) (value : List ℕ) (xs : List (ℕ × List (List ℕ)))
    → AllByRecursion (IsOrdinary dir) xs → AllByRecursion
    (λ x. first_failing (own_checks dir.schema class value x) ≡ None) xs
    → AllByRecursion (IsPlainAttr dir) (map by_id (filter (λ x. is_value dir.schema class x.0) xs))
all_plain dir class value [] are each = tt
all_plain dir class value (x ∷ xs) are each =
    elim (cases_Bool (is_value dir.schema class x.0)) [
      | inl kept ↦ rw kept (plain_is dir class value x are.0 each.0, all_plain dir class value xs are.1 each.1)
      | inr left ↦ rw left (all_plain dir class value xs are.1 each.1)
    ]

values_plain : (dir : Directory) (class : ℕ) (value : List ℕ) (a : Add) → AllByRecursion HasByteValues a.attrs
    → AllByRecursion (λ x. first_failing (own_checks dir.schema class value x) ≡ None) (all_ordinary dir.schema a)
    → AllByRecursion (IsPlainAttr dir) (new_values dir.schema class a)
unfolding new_values all_ordinary
values_plain dir class value a bytes each =
    all_plain dir class value (filter_map (ordinary dir.schema) a.attrs)
    (all_of_filter_map HasByteValues (IsOrdinary dir) (ordinary dir.schema) a.attrs
    (λ attr x are is. ordinary_is dir attr x are is) bytes) each

pub added_is_sound : ReadsBack → SidsRead → (dir : Directory) (token : Token) (a : Add) (flags : ℕ) → IsSound dir
    → HasDomain dir → AllByRecursion HasByteValues a.attrs
    → first_failing (add_checks dir token a flags) ≡ None
    → first_failing (add_later dir token (parent_number dir token a) (class_number dir a) (new_part a).value
    (new_values dir.schema (class_number dir a) a) (new_sd a flags)) ≡ None
    → IsSound (add_made dir token (parent_number dir token a) (class_number dir a) (new_part a).value
    (new_values dir.schema (class_number dir a) a) (new_sd a flags))
unfolding add_checks add_later parent_named new_class
added_is_sound back w dir token a flags sound has bytes none later =
    let parts = head_holds _ _ none in
    let other = head_holds _ _ parts.1 in
    let parent = head_holds _ _ other.1 in
    let named = both_hold (all_naming_checks dir.schema [] a.attrs) _ parent.1 in
    let class = head_holds _ _ named.1 in
    let no_schema = head_holds _ _ class.1 in
    let typed = head_holds _ _ no_schema.1 in
    let reads = head_holds _ _ typed.1 in
    let own = both_hold (flat_map (own_checks dir.schema (class_number dir a) (new_part a).value)
    (all_ordinary dir.schema a)) _ reads.1 in
    let owner = head_holds _ _ later in
    let lawful = head_holds _ _ owner.1 in
    let values = both_hold (flat_map (attr_checks dir) (new_values dir.schema (class_number dir a) a)) _ lawful.1 in
    let allowed = head_holds _ _ values.1 in
    let musts = head_holds _ _ allowed.1 in
    let free = head_holds _ _ musts.1 in
    let fits = head_holds _ _ free.1 in
    add_is_sound back w dir token (parent_number dir token a) (class_number dir a) (new_part a).value
    (new_values dir.schema (class_number dir a) a) (new_sd a flags) sound has
    (live_or dir token (drop 1 (parts_in a.dn)) (parent_named dir token a) sound.rise refl parent.0)
    (class_or dir.schema (unwrap_or (sent a (codes "objectClass")) []) (new_class dir a) refl class.0)
    (first_value a parts.0)
    (values_plain dir (class_number dir a) (new_part a).value a bytes
    (each_holds (own_checks dir.schema (class_number dir a) (new_part a).value)
    (all_ordinary dir.schema a) own.0))
    free.0 fits.0
