-- An object without its links to objects that go.
use Rattle.std.proofs.Common.{◌≡◌, ℕ, suc, ◌+◌, ◌<◌, ◌≤◌, Bool, true, false, not, List, [], ◌∷◌, ◌++◌, length, Option}
use Rattle.std.proofs.Common.{Some, None, inl, inr, refl, sym, ap, arith, ◌∙◌}
use Rattle.std.specs.Prelude.{nat_eq, if◌then◌else◌, filter, filter_map, find, codes, slice_get, ◌%◌, ◌==◌, ◌&&◌}
use Rattle.std.specs.List.{AllByRecursion, cons_option}
use Rattle.std.specs.Option.{option_map, option_map_or, option_and_then}
use Rattle.std.proofs.lemmas.Bool.{eqb-true, cases_Bool, false≢true, and_right}
use Rattle.std.proofs.lemmas.Option.{none-some, same_Some}
use Rattle.ad_value.specs.declared.syntax.Syntax.{Syntax}
use Rattle.ad_value.specs.declared.syntax.Syntax.TheVariants as syntax
use Rattle.ad_value.specs.Value.{Value}
use Rattle.ad_value.specs.ValueOf.{sid_of}
use Rattle.ad_schema.specs.declared.line.SchemaRecord.{SchemaRecord}
use Rattle.ad_schema.specs.declared.info.AttrId.{AttrId}
use Rattle.ad_schema.specs.declared.info.AttrInfo.{AttrInfo}
use Rattle.ad_schema.specs.declared.meaning.RuleAttr.TheVariants as rule
use Rattle.ad_schema.specs.Attributes.{attrs_of, attr_named}
use Rattle.ad_schema.specs.Meaning.{is_neither, is_link, attr_is_link, is_of_names, is_of_sids, counts, if_counts}
use Rattle.ad_schema.specs.Meaning.{rule_name, attr_of_rule}
use Rattle.ad_dir_model.specs.Object.{Stored, plain, link, Held, Object, is_held, stored_in, linked, links_in}
use Rattle.ad_dir_model.specs.Object.{first_plain}
use Rattle.ad_dir_model.specs.Attributes.{is_named, rule_place, object_sid}
use Rattle.ad_dir_model.specs.Identity.{first_of_attr, sid_in}
use Rattle.ad_dir_model.specs.Changes.{stays_linked, held_if_any, unlinked_held, unlinked}
use Rattle.ad_dir_model.specs.Weight.{values_weight, is_only_one, held_weight, all_held_weight, object_weight}
use Rattle.ad_dir_model.specs.Soundness.{IsStored, IsHeld, AttrsRiseFrom, IsContent}

-- ---- the values of one attribute

kept : (ℕ → Bool) → List Stored → List Stored
kept goes values = filter (stays_linked goes) values

each_kept : (P : Stored → Type 0) (goes : ℕ → Bool) (values : List Stored) → AllByRecursion P values
    → AllByRecursion P (kept goes values)
unfolding kept
each_kept P goes [] all = tt
each_kept P goes (v ∷ vs) all =
    elim (cases_Bool (stays_linked goes v)) [
      | inl stays ↦ rw stays (all.0, each_kept P goes vs all.1)
      | inr leaves ↦ rw leaves (each_kept P goes vs all.1)
    ]

kept_lighter : (goes : ℕ → Bool) (values : List Stored) → values_weight (kept goes values) ≤ values_weight values
unfolding kept values_weight
kept_lighter goes [] = omega arith
kept_lighter goes (v ∷ vs) =
    let rest : values_weight (kept goes vs) ≤ values_weight vs = kept_lighter goes vs in
    elim (cases_Bool (stays_linked goes v)) [
      | inl stays ↦ rw stays (omega arith)
      | inr leaves ↦ rw leaves (omega arith)
    ]

-- values that are no links stay
all_plain_kept : (schema : List SchemaRecord) (attr : ℕ) (goes : ℕ → Bool) (values : List Stored)
    → attr_is_link schema attr ≡ false → AllByRecursion (IsStored schema attr) values → kept goes values ≡ values
unfolding kept
all_plain_kept schema attr goes [] no_link all = refl
all_plain_kept schema attr goes (plain v ∷ vs) no_link all = ap (λ (rest : List Stored). plain v ∷ rest)
    (all_plain_kept schema attr goes vs no_link all.1)
all_plain_kept schema attr goes (link n ∷ vs) no_link all = absurd (false≢true (sym no_link ∙ all.0))

-- one value that shows 1 stays
only_one_kept : (goes : ℕ → Bool) (values : List Stored) → is_only_one values ≡ true → kept goes values ≡ values
unfolding kept
only_one_kept goes [] is = absurd (false≢true is)
only_one_kept goes (plain v ∷ []) is = refl
only_one_kept goes (link n ∷ []) is = absurd (false≢true is)
only_one_kept goes (v ∷ w ∷ vs) is = absurd (false≢true is)

-- the links that stay name live objects that don't go
links_kept : (P : ℕ → Type 0) (goes : ℕ → Bool) (values : List Stored) → AllByRecursion P (filter_map linked values)
    → AllByRecursion (λ (n : ℕ). P n × (goes n ≡ false)) (filter_map linked (kept goes values))
unfolding kept
links_kept P goes [] all = tt
links_kept P goes (plain v ∷ vs) all = links_kept P goes vs all
links_kept P goes (link n ∷ vs) all =
    elim (cases_Bool (goes n)) [
      | inl leaves ↦ rw leaves (links_kept P goes vs all.1)
      | inr stays ↦ rw stays ((all.0, stays), links_kept P goes vs all.1)
    ]

-- ---- all attributes

pub all_append : (P : ℕ → Type 0) (xs ys : List ℕ) → AllByRecursion P xs → AllByRecursion P ys
    → AllByRecursion P (xs ++ ys)
all_append P [] ys first rest = rest
all_append P (x ∷ xs) ys first rest = (first.0, all_append P xs ys first.1 rest)

pub all_front : (P : ℕ → Type 0) (xs ys : List ℕ) → AllByRecursion P (xs ++ ys) → AllByRecursion P xs
    × AllByRecursion P ys
all_front P [] ys all = (tt, all)
all_front P (x ∷ xs) ys all = let rest = all_front P xs ys all.1 in ((all.0, rest.0), rest.1)

pub links_stay : (P : ℕ → Type 0) (goes : ℕ → Bool) (values : List Held) → AllByRecursion P (links_in values)
    → AllByRecursion (λ (n : ℕ). P n × (goes n ≡ false)) (links_in (filter_map (unlinked_held goes) values))
unfolding links_in kept
links_stay P goes [] all = tt
links_stay P goes (held ∷ others) all =
    let parts = all_front P (filter_map linked held.values) (links_in others) all in
    let here : AllByRecursion (λ (n : ℕ). P n × (goes n ≡ false)) (filter_map linked (kept goes held.values))
    = links_kept P goes held.values parts.0 in
    by_kept (kept goes held.values) refl here (links_stay P goes others parts.1)
  where
    by_kept : (values : List Stored) → kept goes held.values ≡ values
        → AllByRecursion (λ (n : ℕ). P n × (goes n ≡ false)) (filter_map linked values)
        → AllByRecursion (λ (n : ℕ). P n × (goes n ≡ false)) (links_in (filter_map (unlinked_held goes) others))
        → AllByRecursion (λ (n : ℕ). P n × (goes n ≡ false))
        (links_in (cons_option (held_if_any held.attr values) (filter_map (unlinked_held goes) others)))
    by_kept [] is here rest = rest
    by_kept (v ∷ vs) is here rest = all_append (λ (n : ℕ). P n × (goes n ≡ false)) (filter_map linked (v ∷ vs))
        (links_in (filter_map (unlinked_held goes) others)) here rest

rise_from_weaken : (m k : ℕ) (values : List Held) → AttrsRiseFrom m values → k ≤ m → AttrsRiseFrom k values
rise_from_weaken m k [] rise le = tt
rise_from_weaken m k (h ∷ hs) rise le = let least : m ≤ h.attr = rise.0 in (omega arith, rise.1)

attrs_rise_kept : (m : ℕ) (goes : ℕ → Bool) (values : List Held) → AttrsRiseFrom m values
    → AttrsRiseFrom m (filter_map (unlinked_held goes) values)
attrs_rise_kept m goes [] rise = tt
attrs_rise_kept m goes (held ∷ others) rise = by_kept (filter (stays_linked goes) held.values)
    (attrs_rise_kept (suc held.attr) goes others rise.1)
  where
    by_kept : (values : List Stored) → AttrsRiseFrom (suc held.attr) (filter_map (unlinked_held goes) others)
        → AttrsRiseFrom m (cons_option (held_if_any held.attr values) (filter_map (unlinked_held goes) others))
    by_kept [] rest = let least : m ≤ held.attr = rise.0 in rise_from_weaken (suc held.attr) m
        (filter_map (unlinked_held goes) others) rest (omega arith)
    by_kept (v ∷ vs) rest = (rise.0, rest)

each_held_kept : (schema : List SchemaRecord) (goes : ℕ → Bool) (values : List Held) → AllByRecursion (IsHeld schema)
    values → AllByRecursion (IsHeld schema) (filter_map (unlinked_held goes) values)
unfolding kept
each_held_kept schema goes [] all = tt
each_held_kept schema goes (held ∷ others) all =
    by_kept (kept goes held.values) (each_kept (IsStored schema held.attr) goes held.values all.0.each)
    (each_held_kept schema goes others all.1)
  where
    by_kept : (values : List Stored) → AllByRecursion (IsStored schema held.attr) values
        → AllByRecursion (IsHeld schema) (filter_map (unlinked_held goes) others) → AllByRecursion (IsHeld schema)
        (cons_option (held_if_any held.attr values) (filter_map (unlinked_held goes) others))
    by_kept [] here rest = rest
    by_kept (v ∷ vs) here rest = (record { of_schema = all.0.of_schema; some = omega arith; each = here }, rest)

pub content_unlinked : (schema : List SchemaRecord) (goes : ℕ → Bool) (o : Object) → IsContent schema o
    → IsContent schema (unlinked goes o)
content_unlinked schema goes o content = record {
  class_of_schema = content.class_of_schema;
  name = content.name;
  attrs_rise = attrs_rise_kept 0 goes o.values content.attrs_rise;
  each = each_held_kept schema goes o.values content.each;
}

-- ---- the weight

held_lighter : (schema : List SchemaRecord) (goes : ℕ → Bool) (held : Held)
    → held_weight schema (record { attr = held.attr; values = kept goes held.values }) ≤ held_weight schema held
held_lighter schema goes held =
    elim (cases_Bool (is_only_one held.values)) [
      | inl one ↦ rw (only_one_kept goes held.values one) (omega arith)
      | inr more ↦ by_named (is_named schema (codes "adminCount") held.attr) (is_only_one (kept goes held.values)) more
    ]
  where
    by_named : (named one : Bool) → is_only_one held.values ≡ false
        → (if named && one then 0 else 12 + values_weight (kept goes held.values))
        ≤ (if named && is_only_one held.values then 0 else 12 + values_weight held.values)
    by_named true true more = omega arith
    by_named true false more = let less = kept_lighter goes held.values in rw more (omega (arith, less))
    by_named false one more = let less = kept_lighter goes held.values in omega (arith, less)

all_held_lighter : (schema : List SchemaRecord) (goes : ℕ → Bool) (values : List Held)
    → all_held_weight schema (filter_map (unlinked_held goes) values) ≤ all_held_weight schema values
unfolding all_held_weight kept
all_held_lighter schema goes [] = omega arith
all_held_lighter schema goes (held ∷ others) = by_kept (kept goes held.values) refl (held_lighter schema goes held)
    (all_held_lighter schema goes others)
  where
    by_kept : (values : List Stored) → kept goes held.values ≡ values
        → held_weight schema (record { attr = held.attr; values = values }) ≤ held_weight schema held
        → all_held_weight schema (filter_map (unlinked_held goes) others) ≤ all_held_weight schema others
        → all_held_weight schema (cons_option (held_if_any held.attr values) (filter_map (unlinked_held goes) others))
        ≤ held_weight schema held + all_held_weight schema others
    by_kept [] is here rest = omega (arith, rest)
    by_kept (v ∷ vs) is here rest = omega (arith, here, rest)

pub unlinked_lighter : (schema : List SchemaRecord) (goes : ℕ → Bool) (o : Object)
    → object_weight schema (unlinked goes o) ≤ object_weight schema o
unfolding object_weight
unlinked_lighter schema goes o = let less = all_held_lighter schema goes o.values in omega (arith, less)

-- ---- the identifier

stored_unlinked : (schema : List SchemaRecord) (attr : ℕ) (goes : ℕ → Bool) (values : List Held)
    → attr_is_link schema attr ≡ false → AllByRecursion (IsHeld schema) values
    → stored_in (filter_map (unlinked_held goes) values) attr ≡ stored_in values attr
unfolding stored_in kept
stored_unlinked schema attr goes [] no_link all = refl
stored_unlinked schema attr goes (held ∷ others) no_link all =
    elim (cases_Bool (nat_eq held.attr attr)) [
      | inl same ↦
          let is : held.attr ≡ attr = eqb-true held.attr attr same in
          let all_stay : kept goes held.values ≡ held.values = all_plain_kept schema held.attr goes held.values
          (rw is no_link) all.0.each in
          rw (all_stay, same) (here held.values all.0.some same)
      | inr differ ↦ by_kept differ (kept goes held.values) (stored_unlinked schema attr goes others no_link all.1)
    ]
  where
    here : (values : List Stored) → 0 < length values → nat_eq held.attr attr ≡ true
        → option_map_or (λ (h : Held). h.values)
        (find (is_held attr) (cons_option (held_if_any held.attr values)
        (filter_map (unlinked_held goes) others))) [] ≡ values
    here [] some same = absurd (omega arith)
    here (v ∷ vs) some same = rw same refl

    by_kept : nat_eq held.attr attr ≡ false → (values : List Stored)
        → stored_in (filter_map (unlinked_held goes) others) attr ≡ stored_in others attr
        → option_map_or (λ (h : Held). h.values)
        (find (is_held attr) (cons_option (held_if_any held.attr values)
        (filter_map (unlinked_held goes) others))) []
        ≡ option_map_or (λ (h : Held). h.values) (find (is_held attr) (held ∷ others)) []
    by_kept differ [] rest = rw differ rest
    by_kept differ (v ∷ vs) rest = rw differ rest

-- ---- objectSid is no link

sids_no_names : (s : Syntax) → is_of_sids s ≡ true → is_of_names s ≡ false
sids_no_names syntax.Name is = absurd (false≢true is)
sids_no_names syntax.Ascii is = refl
sids_no_names syntax.Boolean is = refl
sids_no_names syntax.Integer is = refl
sids_no_names syntax.Large is = refl
sids_no_names syntax.Octets is = refl
sids_no_names syntax.Unicode is = refl
sids_no_names syntax.Sid is = refl
sids_no_names syntax.Other is = refl

info_no_link : (info : AttrInfo) → counts rule.ObjectSid info ≡ true → is_link info ≡ false
unfolding counts is_link
info_no_link info is = and_right (not (is_neither info.name) && option_map_or (λ (id : ℕ). id % 2 == 0) info.link
    false) (is_of_names info.syntax) (sids_no_names info.syntax is)

found_no_link : (found : Option AttrInfo) → option_map_or (counts rule.ObjectSid) found false ≡ true
    → option_map_or is_link found false ≡ false
found_no_link None is = refl
found_no_link (Some info) is = info_no_link info is

named_no_link : (schema : List SchemaRecord) (named : Option AttrId) (attr : ℕ) → option_map (λ (id : AttrId). id.0)
    (option_and_then (if_counts schema rule.ObjectSid) named) ≡ Some attr → attr_is_link schema attr ≡ false
unfolding if_counts attr_is_link
named_no_link schema None attr is = absurd (none-some attr is)
named_no_link schema (Some id) attr is =
    elim (cases_Bool (option_map_or (counts rule.ObjectSid) (slice_get (attrs_of schema) id.0) false)) [
      | inl yes_counts ↦
          let place : id.0 ≡ attr = same_Some id.0 attr (rw yes_counts at is) in
          rw (← place) (found_no_link (slice_get (attrs_of schema) id.0) yes_counts)
      | inr not_counts ↦ absurd (none-some attr (rw not_counts at is))
    ]

pub sid_no_link : (schema : List SchemaRecord) (attr : ℕ) → object_sid schema ≡ Some attr → attr_is_link schema attr
    ≡ false
unfolding rule_place attr_of_rule
sid_no_link schema attr is = named_no_link schema (attr_named schema (rule_name rule.ObjectSid)) attr is

pub sid_unlinked : (schema : List SchemaRecord) (goes : ℕ → Bool) (o : Object) → AllByRecursion (IsHeld schema)
    o.values → sid_in schema (unlinked goes o) ≡ sid_in schema o
unfolding sid_in first_of_attr
sid_unlinked schema goes o all = by_attr (object_sid schema) refl
  where
    by_attr : (attr : Option ℕ) → object_sid schema ≡ attr
        → option_and_then (λ (value : Value). sid_of value.shown)
        (option_and_then (λ (place : ℕ). first_plain (stored_in (filter_map (unlinked_held goes) o.values) place))
        attr)
        ≡ option_and_then (λ (value : Value). sid_of value.shown)
        (option_and_then (λ (place : ℕ). first_plain (stored_in o.values place)) attr)
    by_attr None is = refl
    by_attr (Some attr) is = ap (λ (values : List Stored). option_and_then (λ (value : Value). sid_of value.shown)
        (first_plain values)) (stored_unlinked schema attr goes o.values (sid_no_link schema attr is) all)
