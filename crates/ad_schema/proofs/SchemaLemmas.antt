-- What a schema keeps is what its records say.
use Rattle.std.proofs.Common.{◌≡◌, ℕ, ◌+◌, ◌<◌, false, List, [], ◌∷◌, length, map, get_or, refl, sym, ap, subst, ◌∙◌}
use Rattle.std.proofs.Common.{Option, Some, None, Ok, Err, arith}
use Rattle.std.specs.Prelude.{slice_get, codes, is_some}
use Rattle.std.specs.List.{list_any}
use Rattle.ad_bytes.specs.Reading.{need}
use Rattle.ad_ids.specs.declared.guid.Guid.{Guid}
use Rattle.std.specs.Option.{option_map_or, option_and_then}
use Rattle.std.proofs.lemmas.List.{length-map}
use Rattle.std.proofs.lemmas.Option.{slice_get-get_or}
use Rattle.ad_schema.specs.declared.line.SchemaKind.{SchemaKind}
use Rattle.ad_schema.specs.declared.field.Field.TheVariants as field
use Rattle.ad_schema.specs.declared.fault.SchemaFault.{SchemaFault}
use Rattle.ad_schema.specs.declared.fault.SchemaFault.TheVariants.{Unknown, Loop}
use Rattle.ad_schema.specs.declared.line.SchemaKind.TheVariants.{Attribute, Class, Right}
use Rattle.ad_schema.specs.declared.line.Line.{Line}
use Rattle.ad_schema.specs.declared.line.SchemaRecord.{SchemaRecord}
use Rattle.ad_schema.specs.declared.info.ClassInfo.{ClassInfo}
use Rattle.ad_schema.specs.Fields.{text_of}
use Rattle.ad_schema.specs.Records.{none_of, unknown, first_unknown, endless, finished}
use Rattle.ad_schema_classes.specs.declared.links.ClassLinks.{ClassLinks}
use Rattle.ad_schema_classes.specs.declared.rows.ClassRows.{ClassRows}
use Rattle.ad_schema.specs.Attributes.{lines_of, names_of, attrs_of, rights_of, right_info, right_of}
use Rattle.ad_schema_classes.specs.Names.{place_of}
use Rattle.ad_schema_classes.specs.Hashes.{place_by}
use Rattle.ad_schema.specs.Titles.{right_keys}
use Rattle.ad_schema_classes.specs.declared.names.Case.TheVariants.{Kept}
use Rattle.ad_schema.specs.declared.info.RightInfo.{RightInfo}
use Rattle.ad_schema_classes.proofs.IndexLemmas.{found_by}
use Rattle.ad_schema_classes.specs.Chains.{chain, contains, list_at, first_endless}
use Rattle.ad_schema_classes.specs.declared.links.Part.TheVariants.{Must, May}
use Rattle.ad_schema_classes.specs.Rows.{aboves, namings, nexts, superiors_of, guids_of, part_of}
use Rattle.ad_schema.specs.Classes.{superclasses, own_namings, all_musts, all_mays, all_neighbours, all_superiors}
use Rattle.ad_schema.specs.Classes.{naming_of, cn_of, class_info, class_infos, classes_of, class_guid, class_guids}
use Rattle.ad_schema.specs.Classes.{is_must, is_may, is_allowed, chain_of, is_a, is_under}
use Rattle.ad_schema_classes.specs.Chains.{has_guid}
use Rattle.ad_schema_classes.specs.Flags.{flag_at}
use Rattle.ad_schema.specs.Links.{links_in, links_of}
use Rattle.ad_schema_classes.specs.Rows.{HaveRows, must_in, allowed_in}
use Rattle.ad_schema.specs.Tables.{AreAllRowsOf}

pub composed : {A B C : Type 0} (f : A → B) (g : B → C) (xs : List A) → map g (map f xs) ≡ map (λ x. g (f x)) xs
composed f g [] = refl
composed f g (x ∷ xs) = ap (λ (l : List _). g (f x) ∷ l) (composed f g xs)

-- ---- what the classes name

pub links_above : (records : List SchemaRecord) → aboves (links_of records) ≡ superclasses records
unfolding links_of links_in superclasses
links_above records = composed (links_in (names_of Attribute records) (names_of Class records))
    (λ (link : ClassLinks). link.above) (lines_of Class records)

pub links_naming : (records : List SchemaRecord) → namings (links_of records) ≡ own_namings records
unfolding links_of links_in own_namings
links_naming records = composed (links_in (names_of Attribute records) (names_of Class records))
    (λ (link : ClassLinks). link.naming) (lines_of Class records)

pub links_musts : (records : List SchemaRecord) → map (part_of Must) (links_of records) ≡ all_musts records
unfolding links_of links_in all_musts
links_musts records = composed (links_in (names_of Attribute records) (names_of Class records)) (part_of Must)
    (lines_of Class records)

pub links_mays : (records : List SchemaRecord) → map (part_of May) (links_of records) ≡ all_mays records
unfolding links_of links_in all_mays
links_mays records = composed (links_in (names_of Attribute records) (names_of Class records)) (part_of May)
    (lines_of Class records)

pub links_neighbours : (records : List SchemaRecord) → nexts (links_of records) ≡ all_neighbours records
unfolding links_of links_in all_neighbours
links_neighbours records = composed (links_in (names_of Attribute records) (names_of Class records))
    (λ (link : ClassLinks). link.neighbours) (lines_of Class records)

pub links_superiors : (records : List SchemaRecord) → superiors_of (links_of records) ≡ all_superiors records
unfolding links_of links_in all_superiors
links_superiors records = composed (links_in (names_of Attribute records) (names_of Class records))
    (λ (link : ClassLinks). link.superiors) (lines_of Class records)

pub links_guids : (records : List SchemaRecord) → guids_of (links_of records) ≡ class_guids records
unfolding links_of links_in class_guids
links_guids records = composed (links_in (names_of Attribute records) (names_of Class records))
    (λ (link : ClassLinks). link.guid) (lines_of Class records)

pub length-links : (records : List SchemaRecord) → length (links_of records) ≡ length (lines_of Class records)
unfolding links_of
length-links records = length-map (lines_of Class records)
    (links_in (names_of Attribute records) (names_of Class records))

-- ---- the classes

pub classes_are : (records : List SchemaRecord) (cn : ℕ) → cn ≡ cn_of (names_of Attribute records)
    → class_infos (aboves (links_of records)) (namings (links_of records)) cn 0 (lines_of Class records)
    ≡ classes_of records
unfolding classes_of
classes_are records cn is = rw (links_above records, links_naming records, is) refl

infos_long : (above own : List (Option ℕ)) (cn n : ℕ) (lines : List (List Line))
    → length (class_infos above own cn n lines) ≡ length lines
unfolding class_infos
infos_long above own cn n [] = refl
infos_long above own cn n (first ∷ lines) = let more = infos_long above own cn (n + 1) lines in omega arith

pub length-classes : (records : List SchemaRecord) → length (classes_of records) ≡ length (lines_of Class records)
unfolding classes_of
length-classes records = infos_long (superclasses records) (own_namings records) (cn_of (names_of Attribute records))
    0 (lines_of Class records)

-- ---- the rows

past : (rows : List ClassRows) (class : ℕ) → slice_get rows class ≡ None → class < length rows → ⊥
past [] class none lt = omega arith
past (row ∷ rows) class none lt =
    let some = slice_get-get_or (row ∷ rows) class row lt in
    let e : Some (get_or (row ∷ rows) class row) ≡ None = sym some ∙ none in
    cc

pub must_is : (records : List SchemaRecord) (rows : List ClassRows) (class attr : ℕ) → AreAllRowsOf records rows
    → class < length (classes_of records) → attr < length (attrs_of records)
    → must_in rows class attr ≡ is_must records class attr
unfolding must_in is_must
must_is records rows class attr are low in_attrs = by_row (slice_get rows class) refl
  where
    by_row : (found : Option ClassRows) → slice_get rows class ≡ found
        → option_map_or (λ (rows : ClassRows). flag_at rows.must.items attr) found false ≡ is_must records class attr
    by_row (Some row) is = (are.rows_are class row is).must attr in_attrs
        ∙ rw (links_neighbours records, links_musts records) refl
    by_row None is = absurd (past rows class is (omega (arith, are.long, length-links records, length-classes records)))

pub allowed_is : (records : List SchemaRecord) (rows : List ClassRows) (class attr : ℕ) → AreAllRowsOf records rows
    → class < length (classes_of records) → attr < length (attrs_of records)
    → allowed_in rows class attr ≡ is_allowed records class attr
unfolding allowed_in is_must is_may is_allowed naming_of
allowed_is records rows class attr are low in_attrs = by_row (slice_get rows class) refl
  where
    by_row : (found : Option ClassRows) → slice_get rows class ≡ found
        → option_map_or (λ (rows : ClassRows). flag_at rows.allowed.items attr) found false ≡ is_allowed records class
        attr
    by_row (Some row) is = (are.rows_are class row is).allowed attr in_attrs
        ∙ rw (
          links_neighbours records,
          links_musts records,
          links_mays records,
          links_above records,
          links_naming
              records,
        ) refl
    by_row None is = absurd (past rows class is (omega (arith, are.long, length-links records, length-classes records)))

-- ---- what is made, and what is asked

pub classes_made : (records seen : List SchemaRecord) (links : List ClassLinks) (cn : ℕ) → seen ≡ records → links
    ≡ links_of records → cn ≡ cn_of (names_of Attribute records)
    → class_infos (map (λ link. link.above) links) (map (λ link. link.naming) links) cn 0 (lines_of Class seen)
    ≡ classes_of records
classes_made records seen links cn one two three =
    ap (λ (rs : List SchemaRecord). class_infos (map (λ link. link.above) links) (map (λ link. link.naming) links) cn
    0 (lines_of Class rs)) one
    ∙ ap (λ (ls : List ClassLinks). class_infos (map (λ link. link.above) ls) (map (λ link. link.naming) ls) cn 0
    (lines_of Class records)) two
    ∙ classes_are records cn three

pub rows_made : (records : List SchemaRecord) (links : List ClassLinks) (attrs cn : ℕ) (rows : List ClassRows) → links
    ≡ links_of records → attrs ≡ length (attrs_of records)
    → cn ≡ cn_of (names_of Attribute records) → length rows ≡ length links → HaveRows links cn attrs rows
    → AreAllRowsOf records rows
rows_made records links attrs cn rows one two three long have = record {
  long = long ∙ ap length one;
  rows_are =
      subst (λ (n : ℕ). HaveRows (links_of records) (cn_of (names_of Attribute records)) n rows) two
      (subst (λ (k : ℕ). HaveRows (links_of records) k attrs rows) three
      (subst (λ (ls : List ClassLinks). HaveRows ls cn attrs rows) one have));
}

pub is_a_is : (records : List SchemaRecord) (links : List ClassLinks) (guid : Guid) (class : ℕ) → links
    ≡ links_of records
    → list_any (has_guid (guids_of links) guid) (chain (aboves links) class) ≡ is_a records class guid
unfolding is_a chain_of
is_a_is records links guid class one =
    ap (λ (gs : List Guid). list_any (has_guid gs guid) (chain (aboves links) class))
    (ap guids_of one ∙ links_guids records)
    ∙ ap (λ (above : List (Option ℕ)). list_any (has_guid (class_guids records) guid) (chain above class))
    (ap aboves one ∙ links_above records)

pub is_under_is : (records : List SchemaRecord) (links : List ClassLinks) (child parent : ℕ) → links ≡ links_of records
    → list_any (λ class. list_any (contains (chain (map (λ link. link.above) links) parent))
    (list_at (map (λ link. link.superiors) links) class)) (chain (map (λ link. link.above) links) child)
    ≡ is_under records child parent
unfolding is_under chain_of
is_under_is records links child parent one =
    ap (λ (above : List (Option ℕ)). list_any
    (λ class. list_any (contains (chain above parent)) (list_at (map (λ link. link.superiors) links) class))
    (chain above child)) (ap (map (λ link. link.above)) one ∙ links_above records)
    ∙ ap (λ (lists : List (List ℕ)). list_any
    (λ class. list_any (contains (chain (superclasses records) parent)) (list_at lists class))
    (chain (superclasses records) child)) (ap (map (λ link. link.superiors)) one ∙ links_superiors records)

-- ---- from records to a schema

pub unknown_first : (records : List SchemaRecord) (e : SchemaFault) → none_of Unknown (unknown records) ≡ Err e
    → finished records ≡ Err e
unfolding finished
unknown_first records e is = rw is refl

pub cn_next : (records : List SchemaRecord) (e : SchemaFault) → none_of Unknown (unknown records) ≡ Ok tt
    → need (is_some (place_of (names_of Attribute records) (codes "cn"))) (Unknown (codes "cn")) ≡ Err e
    → finished records ≡ Err e
unfolding finished
cn_next records e one is = rw (one, is) refl

pub loop_next : (records : List SchemaRecord) (e : SchemaFault) → none_of Unknown (unknown records) ≡ Ok tt
    → need (is_some (place_of (names_of Attribute records) (codes "cn"))) (Unknown (codes "cn")) ≡ Ok tt
    → none_of Loop (endless records) ≡ Err e → finished records ≡ Err e
unfolding finished
loop_next records e one two is = rw (one, two, is) refl

pub all_passed : (records : List SchemaRecord) → none_of Unknown (unknown records) ≡ Ok tt
    → need (is_some (place_of (names_of Attribute records) (codes "cn"))) (Unknown (codes "cn")) ≡ Ok tt
    → none_of Loop (endless records) ≡ Ok tt → finished records ≡ Ok records
unfolding finished
all_passed records one two three = rw (one, two, three) refl

pub unknown_is : (records seen : List SchemaRecord) (attrs classes : List (List ℕ)) → attrs
    ≡ names_of Attribute records → classes ≡ names_of Class records → seen ≡ records
    → first_unknown attrs classes (lines_of Class seen) ≡ unknown records
unfolding unknown
unknown_is records seen attrs classes one two three = rw (one, two, three) refl

pub endless_is : (records : List SchemaRecord) (links : List ClassLinks) (classes : List (List ℕ)) → links
    ≡ links_of records → classes ≡ names_of Class records
    → option_and_then (slice_get classes) (first_endless (aboves links)) ≡ endless records
unfolding endless
endless_is records links classes one two =
    ap (λ (above : List (Option ℕ)). option_and_then (slice_get classes) (first_endless above))
    (ap aboves one ∙ links_above records)
    ∙ ap (λ (names : List (List ℕ)). option_and_then (slice_get names) (first_endless (superclasses records))) two

pub links_made : (records seen : List SchemaRecord) (attrs classes : List (List ℕ)) → attrs
    ≡ names_of Attribute records → classes ≡ names_of Class records → seen ≡ records
    → map (links_in attrs classes) (lines_of Class seen) ≡ links_of records
unfolding links_of
links_made records seen attrs classes one two three = rw (one, two, three) refl

pub length-names : (kind : SchemaKind) (records : List SchemaRecord) → length (names_of kind records)
    ≡ length (lines_of kind records)
unfolding names_of
length-names kind records = length-map (lines_of kind records) (text_of field.DisplayName)

-- ---- rights

pub right_is : (records : List SchemaRecord) (keys : List (List ℕ)) (rights : List RightInfo) (guid : Guid) → keys
    ≡ right_keys records → rights ≡ rights_of records
    → option_and_then (slice_get rights) (place_by Kept keys guid.bytes) ≡ right_of records guid
unfolding right_keys rights_of right_info right_of
right_is records keys rights guid one two =
    let same : keys ≡ map (λ right. right.guid.bytes) (rights_of records) = one
    ∙ sym (composed right_info (λ (right : RightInfo). right.guid.bytes) (lines_of Right records)) in
    ap (λ (rs : List RightInfo). option_and_then (slice_get rs) (place_by Kept keys guid.bytes)) two
    ∙ ap (λ (ks : List (List ℕ)). option_and_then (slice_get (rights_of records)) (place_by Kept ks guid.bytes)) same
    ∙ found_by (λ (right : RightInfo). right.guid.bytes) guid.bytes (rights_of records)
