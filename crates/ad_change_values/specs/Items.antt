-- What the items of a Modify make of the values of an object, and the checks of the items.
use Rattle.std.specs.Prelude.{ℕ, Bool, not, nat_lt, ◌==◌, ◌&&◌, ◌||◌, if◌then◌else◌}
use Rattle.std.specs.Prelude.{List, [], ◌∷◌, ◌++◌, length, filter}
use Rattle.std.specs.List.{list_all, list_any}
use Rattle.ad_schema.specs.declared.line.SchemaRecord.{SchemaRecord}
use Rattle.ad_schema.specs.Classes.{is_allowed}
use Rattle.ad_dir_objects.specs.declared.act.ActItem.{ActItem}
use Rattle.ad_dir_model.specs.Object.{Stored, Held, stored_in}
use Rattle.ad_dir_model.specs.Directory.{Directory}
use Rattle.ad_dir_model.specs.Changes.{with_values}
use Rattle.ad_needs_rules.specs.Checks.{Check, or_code}
use Rattle.ad_change_values.specs.Values.{is_lacking, reads, is_short, leads}
use Rattle.ad_dir_model.specs.Attributes.{is_password, is_single}
use Rattle.ad_change_values.specs.Values.{is_no_empty_password, is_given_twice, all_stored, is_among}
use Rattle.ad_ldap.specs.ResultCodes.{invalid_attribute_syntax, constraint_violation, attribute_or_value_exists}
use Rattle.ad_ldap.specs.ResultCodes.{no_such_attribute, object_class_violation}
use Rattle.ad_ldap.specs.Choices.{add_values, delete_values}

-- ---- what an item makes of the stored values of its attribute

-- without these, or without any where none are said
abbrev pub taken_from : List Stored → List Stored → List Stored
taken_from values [] = []
taken_from values (first ∷ others) = filter (λ value. not (is_among (first ∷ others) value)) values

-- 0 adds the values after those that are there, 1 takes these or all away, and 2 puts these in their place
unfoldable pub values_after : ℕ → List Stored → List Stored → List Stored
values_after op new values =
    if op == add_values then values ++ new
    else (if op == delete_values then taken_from values new
    else new)

-- the attributes without one
unfoldable pub without : ℕ → List Held → List Held
without attr values = filter (λ (held : Held). not (held.attr == attr)) values

-- with these values of one; an attribute without values isn't held
abbrev pub with_these : ℕ → List Stored → List Held → List Held
with_these attr [] values = without attr values
with_these attr (first ∷ others) values = with_values attr (first ∷ others) values

unfoldable pub after_item : Directory → List Held → ActItem → List Held
after_item dir values item =
    with_these item.attr.0 (values_after item.op (all_stored dir item.attr.0 item.values)
    (stored_in values item.attr.0)) values

unfoldable pub after_items : Directory → List Held → List ActItem → List Held
after_items dir values [] = values
after_items dir values (item ∷ items) = after_items dir (after_item dir values item) items

-- ---- checks of one item, on what those before it made

-- no value that is added is there
abbrev pub adds_new : ℕ → List Stored → List Stored → Bool
adds_new op new values = not (op == add_values) || not (list_any (is_among values) new)

-- no value of an addition or of a replacement is given twice
abbrev pub gives_once : List SchemaRecord → ActItem → Bool
gives_once schema item = item.op == delete_values || not (is_given_twice schema item.attr.0 item.values)

-- all values that are deleted are there, each once; and where all are, there are some
abbrev pub deletes_there : List SchemaRecord → ActItem → List Stored → List Stored → Bool
deletes_there schema item new values =
    if length item.values == 0 then not (length values == 0)
    else list_all (is_among values) new && not (is_given_twice schema item.attr.0 item.values)

abbrev pub item_checks : Directory → List Held → ActItem → List Check
item_checks dir held item =
    let attr = item.attr.0 in
    let new = all_stored dir attr item.values in
    let values = stored_in held attr in
    or_code (list_all (reads dir.schema attr) item.values) invalid_attribute_syntax
    ∷ or_code (list_all (is_short dir.schema attr) item.values) constraint_violation
    ∷ or_code (list_all (leads dir attr) item.values) constraint_violation
    ∷ or_code (adds_new item.op new values) attribute_or_value_exists
    ∷ or_code (gives_once dir.schema item) attribute_or_value_exists
    ∷ or_code (not (item.op == delete_values)
    || (is_password dir.schema attr || deletes_there dir.schema item new values)) no_such_attribute
    ∷ or_code (not (item.op == delete_values)
    || (not (is_password dir.schema attr) || deletes_there dir.schema item new values)) constraint_violation
    ∷ or_code (item.op == delete_values
    || list_all (is_no_empty_password dir.schema attr) item.values) constraint_violation
    ∷ []

unfoldable pub all_item_checks : Directory → List Held → List ActItem → List Check
all_item_checks dir held [] = []
all_item_checks dir held (item ∷ items) = item_checks dir held item ++ all_item_checks dir (after_item dir held item)
    items

-- ---- checks of the attributes that the items name, on what all items made

abbrev pub is_item_named : List ActItem → ℕ → Bool
is_item_named items attr = list_any (λ (item : ActItem). item.attr.0 == attr) items

abbrev pub final_checks : List SchemaRecord → ℕ → List Held → ℕ → List Check
final_checks schema class held attr =
    or_code (not (is_single schema attr && nat_lt 1 (length (stored_in held attr)))) constraint_violation
    ∷ or_code (is_allowed schema class attr) object_class_violation
    ∷ or_code (not (is_lacking schema class attr (not (length (stored_in held attr) == 0)))) object_class_violation
    ∷ []
