-- The object that a protection run puts: what it keeps of the one from before.
use Rattle.std.proofs.Common.{◌≡◌, ℕ, zero, suc, ◌+◌, ◌<◌, ◌≤◌, Bool, true, false, not, List, [], ◌∷◌, length, Option}
use Rattle.std.proofs.Common.{Some, None, ◌⊎◌, inl, inr, refl, sym, subst, ap, arith, ◌∙◌}
use Rattle.std.specs.Prelude.{nat_eq, if◌then◌else◌, filter_map, codes}
use Rattle.std.specs.List.{AllByRecursion}
use Rattle.std.specs.Option.{option_and_then}
use Rattle.std.proofs.lemmas.Bool.{cases_Bool}
use Rattle.ad_sd.specs.declared.parts.Sd.{Sd}
use Rattle.ad_value.specs.Value.{Value}
use Rattle.ad_value.specs.ValueOf.{sid_of}
use Rattle.ad_schema.specs.declared.line.SchemaRecord.{SchemaRecord}
use Rattle.ad_schema.specs.declared.meaning.RuleAttr.{RuleAttr}
use Rattle.ad_schema.specs.declared.meaning.RuleAttr.TheVariants as rule
use Rattle.ad_dir_model.specs.Object.{Stored, plain, Held, Object, stored_in, linked, links_in, first_plain}
use Rattle.ad_dir_model.specs.Attributes.{rule_place, object_sid}
use Rattle.ad_dir_model.specs.Identity.{first_of_attr, sid_in}
use Rattle.ad_dir_model.specs.Directory.{Directory}
use Rattle.ad_dir_model.specs.Changes.{with_values}
use Rattle.ad_dir_model.specs.Protection.{Mark, admin_count, has_mark, with_mark, protected_object}
use Rattle.ad_dir_model.specs.Weight.{object_weight, all_held_weight}
use Rattle.ad_dir_model.specs.Soundness.{IsHeld, AttrsRiseFrom, IsContent}
use Rattle.ad_dir_model.proofs.WithValues.{stored_other, rise_with, each_with, links_with, weight_with}
use Rattle.ad_dir_model.proofs.AdminCount.{IsMark, mark_is, place_within, rule_apart, mark_stored, mark_weighs}

-- ---- the values

-- they are those from before, or those with the mark
pub data IsMarkedFrom (schema : List SchemaRecord) (before after : List Held) : Type 0 where
  unmarked : after ≡ before → IsMarkedFrom schema before after
  marked : (mark : Mark) → IsMark schema mark → after ≡ with_values mark.attr (plain mark.value ∷ []) before
      → IsMarkedFrom schema before after

by_mark : (schema : List SchemaRecord) (mark : Option Mark) (o : Object) → admin_count schema ≡ mark
    → IsMarkedFrom schema o.values (if has_mark mark o then o else with_mark mark o).values
by_mark schema None o is = unmarked refl
by_mark schema (Some mark) o is =
    elim (cases_Bool (has_mark (Some mark) o)) [
      | inl has_it ↦ rw has_it (unmarked refl)
      | inr lacks ↦ rw lacks (marked mark (mark_is schema mark is) refl)
    ]

pub values_marked : (dir : Directory) (sd : Sd) (o : Object) → IsMarkedFrom dir.schema o.values
    (protected_object dir sd o).values
unfolding protected_object
values_marked dir sd o = by_mark dir.schema (admin_count dir.schema) o refl

-- ---- the other fields

number_by : (mark : Option Mark) (o : Object) → (with_mark mark o).number ≡ o.number
number_by None o = refl
number_by (Some mark) o = refl

parent_by : (mark : Option Mark) (o : Object) → (with_mark mark o).parent ≡ o.parent
parent_by None o = refl
parent_by (Some mark) o = refl

class_by : (mark : Option Mark) (o : Object) → (with_mark mark o).class ≡ o.class
class_by None o = refl
class_by (Some mark) o = refl

name_by : (mark : Option Mark) (o : Object) → (with_mark mark o).name ≡ o.name
name_by None o = refl
name_by (Some mark) o = refl

either : {A : Type 0} (field : Object → A) (b : Bool) (x o : Object) → field x ≡ field o → field (if b then o else x)
    ≡ field o
either field true x o same = refl
either field false x o same = same

pub number_kept : (dir : Directory) (sd : Sd) (o : Object) → (protected_object dir sd o).number ≡ o.number
unfolding protected_object
number_kept dir sd o = either (λ (x : Object). x.number) (has_mark (admin_count dir.schema) o)
    (with_mark (admin_count dir.schema) o) o (number_by (admin_count dir.schema) o)

pub parent_kept : (dir : Directory) (sd : Sd) (o : Object) → (protected_object dir sd o).parent ≡ o.parent
unfolding protected_object
parent_kept dir sd o = either (λ (x : Object). x.parent) (has_mark (admin_count dir.schema) o)
    (with_mark (admin_count dir.schema) o) o (parent_by (admin_count dir.schema) o)

pub class_kept : (dir : Directory) (sd : Sd) (o : Object) → (protected_object dir sd o).class ≡ o.class
unfolding protected_object
class_kept dir sd o = either (λ (x : Object). x.class) (has_mark (admin_count dir.schema) o)
    (with_mark (admin_count dir.schema) o) o (class_by (admin_count dir.schema) o)

pub name_kept : (dir : Directory) (sd : Sd) (o : Object) → (protected_object dir sd o).name ≡ o.name
unfolding protected_object
name_kept dir sd o = either (λ (x : Object). x.name) (has_mark (admin_count dir.schema) o)
    (with_mark (admin_count dir.schema) o) o (name_by (admin_count dir.schema) o)

pub sd_given : (dir : Directory) (sd : Sd) (o : Object) → (protected_object dir sd o).sd ≡ sd
unfolding protected_object
sd_given dir sd o = refl

-- ---- what is asked of values

pub rise_marked : (schema : List SchemaRecord) (before after : List Held) → IsMarkedFrom schema before after
    → AttrsRiseFrom 0 before → AttrsRiseFrom 0 after
rise_marked schema before after (unmarked is) rise = rw is rise
rise_marked schema before after (marked mark m is) rise
    = rw is (rise_with mark.attr (plain mark.value ∷ []) 0 before rise (omega arith))

pub each_marked : (schema : List SchemaRecord) (before after : List Held) → IsMarkedFrom schema before after
    → AllByRecursion (IsHeld schema) before → AllByRecursion (IsHeld schema) after
each_marked schema before after (unmarked is) all = rw is all
each_marked schema before after (marked mark m is) all
    = rw is (each_with (IsHeld schema) mark.attr (plain mark.value ∷ []) before (record {
      of_schema = place_within schema (codes "adminCount") mark.attr m.place;
      some = omega arith;
      each = (mark_stored schema mark m, tt);
    }) all)

pub links_marked : (schema : List SchemaRecord) (P : ℕ → Type 0) (before after : List Held)
    → IsMarkedFrom schema before after → AllByRecursion P (links_in before) → AllByRecursion P (links_in after)
links_marked schema P before after (unmarked is) all = rw is all
links_marked schema P before after (marked mark m is) all
    = rw is (links_with P mark.attr (plain mark.value ∷ []) before tt all)

pub weight_marked : (schema : List SchemaRecord) (before after : List Held) → IsMarkedFrom schema before after
    → all_held_weight schema after ≤ all_held_weight schema before
weight_marked schema before after (unmarked is) = rw is (omega arith)
weight_marked schema before after (marked mark m is)
    = rw is (weight_with schema mark.attr (plain mark.value ∷ []) before (mark_weighs schema mark m))

-- ---- attributes that rules name

pub rule_values_marked : (schema : List SchemaRecord) (which : RuleAttr) (place : ℕ) (before after : List Held)
    → IsMarkedFrom schema before after → rule_place schema which ≡ Some place → stored_in after place
    ≡ stored_in before place
rule_values_marked schema which place before after (unmarked is) at = rw is refl
rule_values_marked schema which place before after (marked mark m is) at
    = rw is (stored_other mark.attr place (plain mark.value ∷ []) before (rule_apart schema which mark place m at))

first_by : (schema : List SchemaRecord) (which : RuleAttr) (place : Option ℕ) (before after : List Held)
    → IsMarkedFrom schema before after → rule_place schema which ≡ place
    → option_and_then (λ (p : ℕ). first_plain (stored_in after p)) place
    ≡ option_and_then (λ (p : ℕ). first_plain (stored_in before p)) place
first_by schema which None before after from at = refl
first_by schema which (Some place) before after from at
    = ap first_plain (rule_values_marked schema which place before after from at)

-- objects with such values have the same first value
pub first_marked : (schema : List SchemaRecord) (which : RuleAttr) (x y : Object) → IsMarkedFrom schema x.values
    y.values → first_of_attr (rule_place schema which) y ≡ first_of_attr (rule_place schema which) x
unfolding first_of_attr
first_marked schema which x y from = first_by schema which (rule_place schema which) x.values y.values from refl

pub sid_marked : (schema : List SchemaRecord) (x y : Object) → IsMarkedFrom schema x.values y.values → sid_in schema y
    ≡ sid_in schema x
unfolding sid_in
sid_marked schema x y from = ap (λ (first : Option Value). option_and_then (λ (value : Value). sid_of value.shown)
    first) (first_marked schema rule.ObjectSid x y from)

pub content_marked : (schema : List SchemaRecord) (x y : Object) → IsMarkedFrom schema x.values y.values → y.class
    ≡ x.class → y.name ≡ x.name → IsContent schema x → IsContent schema y
content_marked schema x y from class name content = record {
  class_of_schema = rw class content.class_of_schema;
  name = rw name content.name;
  attrs_rise = rise_marked schema x.values y.values from content.attrs_rise;
  each = each_marked schema x.values y.values from content.each;
}

pub lighter_marked : (schema : List SchemaRecord) (x y : Object) → IsMarkedFrom schema x.values y.values → y.name
    ≡ x.name → object_weight schema y ≤ object_weight schema x
unfolding object_weight
lighter_marked schema x y from name = let less = weight_marked schema x.values y.values from
    in rw name (omega (arith, less))
