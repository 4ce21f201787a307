-- The schema of the sample's records is the base schema.
use Rattle.std.proofs.Common.{◌≡◌, ◌∙◌, ℕ, zero, suc, ◌+◌, ◌≤◌, List, [], ◌∷◌, ◌++◌, map, None, Ok, refl, ap}
use Rattle.std.proofs.Common.{append_assoc}
use Rattle.std.specs.List.{AllByRecursion}
use Rattle.ad_schema_classes.specs.Names.{same_name, place_of}
use Rattle.ad_schema_classes.specs.Chains.{option_at, ends_within, endless_from, first_endless}
use Rattle.ad_schema.specs.declared.line.SchemaRecord.{SchemaRecord}
use Rattle.ad_schema.specs.declared.line.SchemaKind.TheVariants.{Attribute, Class, Right}
use Rattle.ad_schema.specs.Fields.{field_of, value_of}
use Rattle.ad_schema.specs.Attributes.{lines_of, names_of}
use Rattle.ad_schema.specs.Classes.{superclass, superclasses}
use Rattle.ad_schema.specs.Records.{is_unknown, unknown_in, first_unknown, unknown, endless, finished}
use Rattle.ad_load_records.specs.Records.{kind_of, records_in, all_of}
use Rattle.ad_load_records.specs.Schema.{all_added, schema_of, schema_in}
use Rattle.ad_gen.specs.Ldif.{ldif}
use Rattle.ad_gen_laws.specs.Plain.{Plain, defined, fields_from, next_at, records_from}
use Rattle.ad_gen_laws.specs.Base.{attributes, classes, rights, base, base_schema}
use Rattle.ad_gen_laws.specs.Sample.{fixed, objects, plains, unit, user, users, units}
use Rattle.ad_gen_laws.proofs.Closed.{all_of_both}
use Rattle.ad_gen_laws.proofs.Named.{all_named}
use Rattle.ad_gen_laws.proofs.Names.{plains_named}
use Rattle.ad_gen_laws.proofs.Length.{text_few}
use Rattle.ad_gen_laws.proofs.Ldif.{story_is}
use Rattle.ad_gen_laws.proofs.OnSchema.{on_adding}

-- ---- the records

pub records_are : (n : ℕ) → n ≤ 1000 → records_in (ldif n) ≡ Ok (records_from 1 (plains n))
unfolding records_in
records_are n few =
    rw (text_few n few) (ap all_of (story_is n few) ∙ all_named 1 (plains n) (plains_named n few))

-- ---- the schema

abbrev attribute_records : List SchemaRecord
attribute_records = map (defined Attribute) attributes

abbrev class_records : List SchemaRecord
class_records = map (defined Class) classes

abbrev right_records : List SchemaRecord
right_records = map (defined Right) rights

attributes_added : (others : List Plain) → all_added [] (records_from 1 (attributes ++ others))
    ≡ all_added attribute_records (records_from 134 others)
unfolding attributes on_adding
attributes_added others = refl

classes_added : (others : List Plain) → all_added attribute_records (records_from 134 (classes ++ others))
    ≡ all_added (attribute_records ++ class_records) (records_from 228 others)
unfolding attributes classes on_adding
classes_added others = refl

rights_added : (others : List Plain) → all_added (attribute_records ++ class_records)
    (records_from 228 (rights ++ others)) ≡ all_added base_schema (records_from 270 others)
unfolding attributes classes rights base_schema on_adding
rights_added others = refl

-- a record that defines nothing
abbrev pub IsObject : Plain → Type 0
IsObject p = (k : ℕ) → kind_of (fields_from k p.lines) ≡ None

none_added : (schema : List SchemaRecord) (k : ℕ) (ps : List Plain) → AllByRecursion IsObject ps
    → all_added schema (records_from k ps) ≡ Ok schema
unfolding all_added records_from
none_added schema k [] all = refl
none_added schema k (p ∷ ps) all = rw (all.0 (k + 1)) (none_added schema (next_at k p) ps all.1)

pub unit_object : (i : ℕ) → IsObject (unit i)
unfolding kind_of fields_from same_name
unit_object i k = refl

pub user_object : (i j : ℕ) → IsObject (user i j)
unfolding kind_of fields_from same_name
user_object i j k = refl

users_objects : (i j : ℕ) → AllByRecursion IsObject (users i j)
unfolding users
users_objects i zero = tt
users_objects i (suc j) = all_of_both IsObject (users i j) (user i (suc j) ∷ []) (users_objects i j)
    (user_object i (suc j), tt)

units_objects : (n : ℕ) → AllByRecursion IsObject (units n)
unfolding units
units_objects zero = tt
units_objects (suc i) = all_of_both IsObject (units i) (unit i ∷ users i 10) (units_objects i)
    (unit_object i, users_objects i 10)

pub fixed_objects : AllByRecursion IsObject fixed
unfolding kind_of fields_from same_name
fixed_objects = (λ k. refl, (λ k. refl, (λ k. refl, (λ k. refl, tt))))

pub all_objects : (n : ℕ) → AllByRecursion IsObject (objects n)
all_objects n = all_of_both IsObject fixed (units n) fixed_objects (units_objects n)

pub base_finished : finished base_schema ≡ Ok base_schema
unfolding attributes classes rights base_schema finished unknown first_unknown unknown_in is_unknown endless
    first_endless endless_from ends_within option_at superclasses superclass names_of lines_of place_of same_name
    field_of value_of
base_finished = refl

pub all_are_added : (n : ℕ) → all_added [] (records_from 1 (plains n)) ≡ Ok base_schema
unfolding base
all_are_added n =
    ap (λ (ps : List Plain). all_added [] (records_from 1 ps))
    (append_assoc attributes (classes ++ rights) (objects n) ∙ ap (λ (ps : List Plain). attributes ++ ps)
    (append_assoc classes rights (objects n)))
    ∙ attributes_added (classes ++ (rights ++ objects n))
    ∙ classes_added (rights ++ objects n)
    ∙ rights_added (objects n)
    ∙ none_added base_schema 270 (objects n) (all_objects n)

pub schema_is : (n : ℕ) → n ≤ 1000 → schema_in (ldif n) ≡ Ok base_schema
unfolding schema_in schema_of
schema_is n few = rw (records_are n few, all_are_added n, base_finished) refl
