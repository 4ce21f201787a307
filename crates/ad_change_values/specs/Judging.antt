-- What is said of functions that judge some checks.
use Rattle.std.specs.Prelude.{◌≡◌, ℕ, ◌<◌, Bool, false, ◌==◌, ◌||◌, not, Some, None, List, [], ◌∷◌, ◌++◌}
use Rattle.std.specs.Prelude.{length, filter, filter_map, slice_index_or, Result, Ok, Err}
use Rattle.std.specs.List.{list_all, flat_map, AllByRecursion}
use Rattle.std.specs.Result.{result_ok}
use Rattle.ad_bytes.specs.Reading.{IsBytes}
use Rattle.ad_value.specs.Value.{Value}
use Rattle.ad_schema.specs.declared.line.SchemaRecord.{SchemaRecord}
use Rattle.ad_dir_objects.specs.declared.act.ActItem.{ActItem}
use Rattle.ad_dir_model.specs.Object.{Stored, Held}
use Rattle.ad_dir_model.specs.Directory.{Directory}
use Rattle.ad_needs_rules.specs.Checks.{Check, code, or_code, first_failing}
use Rattle.ad_change_values.specs.declared.refusal.Refusal.{Refusal}
use Rattle.ad_change_values.specs.declared.refusal.Refusal.TheVariants as refusal
use Rattle.ad_change_values.specs.Values.{all_attrs, value_in, reads, is_short, leads}
use Rattle.ad_dir_model.specs.Attributes.{is_password}
use Rattle.ad_change_values.specs.Values.{is_no_empty_password, all_stored}
use Rattle.ad_change_values.specs.Items.{adds_new, gives_once, deletes_there, is_item_named, all_item_checks}
use Rattle.ad_change_values.specs.Items.{final_checks, after_items}
use Rattle.ad_ldap.specs.ResultCodes.{invalid_attribute_syntax, constraint_violation, attribute_or_value_exists}
use Rattle.ad_ldap.specs.ResultCodes.{no_such_attribute}
use Rattle.ad_ldap.specs.Choices.{delete_values}

-- The first check that fails has this code, or memory ran out.
abbrev pub StopsAt : List Check → Refusal → Type 0
StopsAt checks (refusal.Code number) = first_failing checks ≡ Some (code number)
StopsAt checks refusal.Memory = Unit {0}

-- The checks hold and what is made is so, or they stop there.
abbrev pub Judges : {X : Type 0} → List Check → (X → Type 0) → Result X Refusal → Type 0
Judges checks Made (Ok made) = (first_failing checks ≡ None) × Made made
Judges checks Made (Err why) = StopsAt checks why

-- ---- values

-- those that are read
abbrev pub values_in : List SchemaRecord → ℕ → List (List ℕ) → List Value
values_in schema attr sent = filter_map (λ bytes. result_ok (value_in schema attr bytes)) sent

abbrev pub reading_checks : List SchemaRecord → ℕ → List (List ℕ) → List Check
reading_checks schema attr sent =
    or_code (list_all (reads schema attr) sent) invalid_attribute_syntax
    ∷ or_code (list_all (is_short schema attr) sent) constraint_violation
    ∷ []

-- the checks of an item after those of its values alone
abbrev pub kept_checks : List SchemaRecord → ActItem → List Stored → List Stored → List Check
kept_checks schema item new values =
    or_code (adds_new item.op new values) attribute_or_value_exists
    ∷ or_code (gives_once schema item) attribute_or_value_exists
    ∷ or_code (not (item.op == delete_values)
    || (is_password schema item.attr.0 || deletes_there schema item new values)) no_such_attribute
    ∷ or_code (not (item.op == delete_values)
    || (not (is_password schema item.attr.0) || deletes_there schema item new values)) constraint_violation
    ∷ or_code (item.op == delete_values
    || list_all (is_no_empty_password schema item.attr.0) item.values) constraint_violation
    ∷ []

-- the checks of an item, where its attribute has these values
abbrev pub checks_on : Directory → List Stored → ActItem → List Check
checks_on dir stored item =
    reading_checks dir.schema item.attr.0 item.values
    ++ or_code (list_all (leads dir item.attr.0) item.values) constraint_violation
    ∷ kept_checks dir.schema item (all_stored dir item.attr.0 item.values) stored

-- those of the items of a Modify, and of the attributes that they name
abbrev pub value_checks : Directory → ℕ → List Held → List ActItem → List Check
value_checks dir class held items =
    all_item_checks dir held items
    ++ flat_map (final_checks dir.schema class (after_items dir held items))
    (filter (is_item_named items) (all_attrs dir.schema))

-- the values of an item are bytes
abbrev pub HasByteItem : ActItem → Type 0
HasByteItem item = AllByRecursion IsBytes item.values

-- ---- attributes that are named

-- for each of so many, whether an item names it
pub record AreNamed (items : List ActItem) (count : ℕ) (named : List Bool) : Type 0 where
  pub len : length named ≡ count
  pub each : (attr : ℕ) → attr < count → slice_index_or named attr false ≡ is_item_named items attr

-- ---- values that are held

-- the attribute isn't
abbrev pub HoldsNone : ℕ → List Held → Type 0
HoldsNone attr values = AllByRecursion (λ (held : Held). (held.attr == attr) ≡ false) values
