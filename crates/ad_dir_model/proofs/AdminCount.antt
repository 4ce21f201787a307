-- adminCount is another attribute than those that rules name, and its value 1 is a value of it.
use Rattle.std.proofs.Common.{◌≡◌, ℕ, zero, suc, ◌<◌, ◌≤◌, Bool, true, false, not, cond, List, [], ◌∷◌, map, length}
use Rattle.std.proofs.Common.{get_or, Option, Some, None, ◌⊎◌, inl, inr, refl, sym, subst, ap, arith, ◌∙◌}
use Rattle.std.specs.Prelude.{nat_eq, nat_lt, if◌then◌else◌, codes, slice_get, ℤ, Result, Ok, Err, ◌&&◌, ◌||◌}
use Rattle.std.specs.List.{prefix_len, position_or_len, list_all}
use Rattle.std.specs.Option.{option_map, option_map_or, option_and_then, option_or, ok_or}
use Rattle.std.specs.Str.{bytes_eq, str_to_ascii_lowercase, is_utf8}
use Rattle.std.proofs.lemmas.Bool.{eqb-true, eqb-false, ne_eqb, eq-eqb, ltb-true, cases_Bool, false≢true, both_ways}
use Rattle.std.proofs.lemmas.Bool.{not-false, or_parts}
use Rattle.std.proofs.lemmas.Option.{none-some, same_Some}
use Rattle.std.proofs.lemmas.List.{length-map}
use Rattle.std.proofs.lemmas.List.Sums.{prefix_len_stops}
use Rattle.std.proofs.lemmas.Slice.Eq.{bytes_eq-Decides}
use Rattle.ad_ids.specs.SidValue.{SidValue}
use Rattle.ad_ids.specs.SidReading.{header_at, sid_at}
use Rattle.ad_ids.specs.Sid.{sid_bytes}
use Rattle.ad_bytes.specs.Numbers.{byte_at}
use Rattle.ad_value.specs.declared.syntax.Syntax.{Syntax}
use Rattle.ad_value.specs.declared.syntax.Syntax.TheVariants as syntax
use Rattle.ad_value.specs.Value.{Value, value, as_shown}
use Rattle.ad_value.specs.declared.fault.ValueFault.{ValueFault}
use Rattle.ad_value.specs.declared.fault.ValueFault.TheVariants as fault
use Rattle.ad_dn.specs.declared.rdn.Dn.{Dn}
use Rattle.ad_dn.specs.NameKey.{name_key}
use Rattle.ad_dn.specs.Fold.{folded}
use Rattle.ad_dn.specs.Reading.{dn_of}
use Rattle.ad_ids.specs.SidFront.{sid_of_text}
use Rattle.ad_ids.specs.SidSteps.{step_from}
use Rattle.ad_value.specs.declared.value.Key.TheVariants as key
use Rattle.ad_value.specs.ValueOf.{is_ascii, number_of, sid_of, normal_of, normal_or_fault}
use Rattle.ad_schema.specs.declared.line.SchemaKind.TheVariants.{Attribute}
use Rattle.ad_schema.specs.declared.line.SchemaRecord.{SchemaRecord}
use Rattle.ad_schema.specs.declared.info.AttrId.{AttrId}
use Rattle.ad_schema.specs.declared.meaning.RuleAttr.{RuleAttr}
use Rattle.ad_schema.specs.declared.meaning.RuleAttr.TheVariants as rule
use Rattle.ad_schema_classes.specs.Names.{same_name, place_of}
use Rattle.ad_schema.specs.declared.field.Field.TheVariants as field
use Rattle.ad_schema.specs.Fields.{text_of}
use Rattle.ad_schema.specs.Attributes.{lines_of, names_of, attr_info, attrs_of, attr_named}
use Rattle.ad_schema.specs.Meaning.{attr_is_link, attr_is_back_link, counts, if_counts, rule_name, attr_of_rule}
use Rattle.ad_dir_model.specs.Object.{plain}
use Rattle.ad_dir_model.specs.Attributes.{attr_place, is_named, syntax_at, rule_place}
use Rattle.ad_dir_model.specs.Protection.{Mark, mark_of, admin_count}
use Rattle.ad_dir_model.specs.Weight.{held_weight}
use Rattle.ad_dir_model.specs.Soundness.{IsValueBy, IsStored}
use Rattle.ad_dir_model.proofs.WithValues.{held_of}

-- ---- names at places

name_at : List SchemaRecord → ℕ → List ℕ
name_at schema place = get_or (names_of Attribute schema) place []

same_lower : (a b : List ℕ) → same_name a b ≡ true → str_to_ascii_lowercase a ≡ str_to_ascii_lowercase b
unfolding same_name
same_lower a b same = (bytes_eq-Decides (str_to_ascii_lowercase a) (str_to_ascii_lowercase b)).0 same

found_name : (names : List (List ℕ)) (name : List ℕ) (place : ℕ) → place_of names name ≡ Some place
    → (place < length names) × (same_name (get_or names place []) name ≡ true)
unfolding place_of
found_name names name place is =
    elim (cases_Bool (nat_lt (position_or_len (λ (other : List ℕ). same_name other name) names) (length names))) [
      | inl within ↦
          let at : position_or_len (λ (other : List ℕ). same_name other name) names ≡ place
          = same_Some (position_or_len (λ (other : List ℕ). same_name other name) names) place (rw within at is)
          in
          let less : position_or_len (λ (other : List ℕ). same_name other name) names < length names
          = ltb-true (position_or_len (λ (other : List ℕ). same_name other name) names) (length names) within in
          rw (← at) (
            less,
            not-false (same_name
                (get_or names (position_or_len (λ (other : List ℕ). same_name other name) names) []) name)
                (prefix_len_stops (λ (other : List ℕ). not (same_name other name)) names [] less),
          )
      | inr past ↦ absurd (none-some place (rw past at is))
    ]

place_named : (named : Option ℕ) (place : ℕ) → option_map (λ (id : AttrId). id.0)
    (option_map (λ (n : ℕ). record { 0 = n }) named) ≡ Some place → named ≡ Some place
place_named None place is = absurd (none-some place is)
place_named (Some n) place is = is

name_of_place : (schema : List SchemaRecord) (name : List ℕ) (place : ℕ) → attr_place schema name ≡ Some place
    → (place < length (names_of Attribute schema)) × (same_name (name_at schema place) name ≡ true)
unfolding attr_named name_at
name_of_place schema name place is = found_name (names_of Attribute schema) name place
    (place_named (place_of (names_of Attribute schema) name) place is)

-- attributes of two names are two
pub places_apart : (schema : List SchemaRecord) (a b : List ℕ) (p q : ℕ) → attr_place schema a ≡ Some p
    → attr_place schema b ≡ Some q → bytes_eq (str_to_ascii_lowercase a) (str_to_ascii_lowercase b) ≡ false → p ≡ q
    → ⊥
places_apart schema a b p q at_a at_b differ same =
    let first = same_lower (name_at schema p) a (name_of_place schema a p at_a).1 in
    let second = same_lower (name_at schema q) b (name_of_place schema b q at_b).1 in
    let equal = sym first ∙ ap (λ (n : ℕ). str_to_ascii_lowercase (name_at schema n)) same ∙ second in
    both_ways (bytes_eq (str_to_ascii_lowercase a) (str_to_ascii_lowercase b)) differ
    ((bytes_eq-Decides (str_to_ascii_lowercase a) (str_to_ascii_lowercase b)).1 equal)

pub place_within : (schema : List SchemaRecord) (name : List ℕ) (place : ℕ) → attr_place schema name ≡ Some place
    → place < length (attrs_of schema)
unfolding attrs_of names_of
place_within schema name place is =
    let less = (name_of_place schema name place is).0 in
    let names_long = length-map (lines_of Attribute schema) (text_of field.DisplayName) in
    let attrs_long = length-map (lines_of Attribute schema) attr_info in
    omega (arith, less, names_long, attrs_long)

-- ---- attributes of rules

of_rule : (schema : List SchemaRecord) (which : RuleAttr) (named : Option AttrId) (place : ℕ)
    → option_map (λ (id : AttrId). id.0) (option_and_then (if_counts schema which) named) ≡ Some place
    → option_map (λ (id : AttrId). id.0) named ≡ Some place
unfolding if_counts
of_rule schema which None place is = absurd (none-some place is)
of_rule schema which (Some id) place is =
    elim (cases_Bool (option_map_or (counts which) (slice_get (attrs_of schema) id.0) false)) [
      | inl yes_counts ↦ rw yes_counts at is
      | inr not_counts ↦ absurd (none-some place (rw not_counts at is))
    ]

pub rule_is_named : (schema : List SchemaRecord) (which : RuleAttr) (place : ℕ) → rule_place schema which ≡ Some place
    → attr_place schema (rule_name which) ≡ Some place
unfolding rule_place attr_of_rule
rule_is_named schema which place is = of_rule schema which (attr_named schema (rule_name which)) place is

-- ---- adminCount

pub record IsMark (schema : List SchemaRecord) (mark : Mark) : Type 0 where
  pub place : attr_place schema (codes "adminCount") ≡ Some mark.attr
  pub no_link : attr_is_link schema mark.attr ≡ false
  pub reads : normal_or_fault (syntax_at schema mark.attr) (codes "1") ≡ Ok mark.value

marked_by : (schema : List SchemaRecord) (attr : ℕ) (read : Result Value ValueFault) (mark : Mark)
    → normal_or_fault (syntax_at schema attr) (codes "1") ≡ read → mark_of attr read ≡ Some mark → (mark.attr ≡ attr)
    × (normal_or_fault (syntax_at schema attr) (codes "1") ≡ Ok mark.value)
marked_by schema attr (Ok value) mark reads is = let same : record { attr = attr; value = value } ≡ mark
    = same_Some (record { attr = attr; value = value }) mark is
    in (ap (λ (m : Mark). m.attr) (sym same), reads ∙ ap (λ (m : Mark). Ok m.value) same)
marked_by schema attr (Err e) mark reads is = absurd (none-some mark is)

mark_from : (schema : List SchemaRecord) (place : Option ℕ) (mark : Mark) → attr_place schema (codes "adminCount")
    ≡ place
    → option_and_then (λ (attr : ℕ). if attr_is_link schema attr || attr_is_back_link schema attr then None
    else mark_of attr (normal_or_fault (syntax_at schema attr) (codes "1"))) place ≡ Some mark
    → IsMark schema mark
mark_from schema None mark at is = absurd (none-some mark is)
mark_from schema (Some attr) mark at is =
    elim (cases_Bool (attr_is_link schema attr || attr_is_back_link schema attr)) [
      | inl linked ↦ absurd (none-some mark (rw linked at is))
      | inr no_link ↦
          let parts = marked_by schema attr (normal_or_fault (syntax_at schema attr) (codes "1")) mark refl
          (rw no_link at is) in
          record {
            place = rw parts.0 at;
            no_link = rw parts.0 (or_parts (attr_is_link schema attr) (attr_is_back_link schema attr) no_link).0;
            reads = rw parts.0 parts.1;
          }
    ]

pub mark_is : (schema : List SchemaRecord) (mark : Mark) → admin_count schema ≡ Some mark → IsMark schema mark
unfolding admin_count
mark_is schema mark is = mark_from schema (attr_place schema (codes "adminCount")) mark refl is

-- no rule names it
pub rule_apart : (schema : List SchemaRecord) (which : RuleAttr) (mark : Mark) (place : ℕ) → IsMark schema mark
    → rule_place schema which ≡ Some place → mark.attr ≡ place → ⊥
rule_apart schema rule.ObjectSid mark place is at = places_apart schema (codes "adminCount") (codes "objectSid")
    mark.attr place is.place (rule_is_named schema rule.ObjectSid place at) refl
rule_apart schema rule.PrimaryGroupId mark place is at = places_apart schema (codes "adminCount")
    (codes "primaryGroupID") mark.attr place is.place (rule_is_named schema rule.PrimaryGroupId place at) refl
rule_apart schema rule.DsHeuristics mark place is at = places_apart schema (codes "adminCount") (codes "dSHeuristics")
    mark.attr place is.place (rule_is_named schema rule.DsHeuristics place at) refl
rule_apart schema rule.Member mark place is at = places_apart schema (codes "adminCount") (codes "member") mark.attr
    place is.place (rule_is_named schema rule.Member place at) refl

named_by : (schema : List SchemaRecord) (mark : Mark) (named : Option ℕ) → IsMark schema mark
    → attr_place schema (codes "unicodePwd") ≡ named → option_map_or (λ (place : ℕ). nat_eq place mark.attr) named
    false ≡ false
named_by schema mark None is at = refl
named_by schema mark (Some place) is at =
    ne_eqb place mark.attr (λ (same : place ≡ mark.attr). places_apart schema (codes "adminCount")
    (codes "unicodePwd") mark.attr place is.place at refl (sym same))

not_password : (schema : List SchemaRecord) (mark : Mark) → IsMark schema mark → is_named schema (codes "unicodePwd")
    mark.attr ≡ false
not_password schema mark is = named_by schema mark (attr_place schema (codes "unicodePwd")) is refl

named_so : (schema : List SchemaRecord) (mark : Mark) → IsMark schema mark → is_named schema (codes "adminCount")
    mark.attr ≡ true
named_so schema mark is = rw is.place (eq-eqb mark.attr mark.attr refl)

-- ---- its value

shown_mapped : {A : Type 0} (f : A → Value) (bytes : List ℕ) (found : Option A) (v : Value)
    → ((x : A) → (f x).shown ≡ bytes) → option_map f found ≡ Some v → v.shown ≡ bytes
shown_mapped f bytes None v shows is = absurd (none-some v is)
shown_mapped f bytes (Some x) v shows is = let same : f x ≡ v = same_Some (f x) v is in ap (λ (w : Value). w.shown)
    (sym same) ∙ shows x

shown_if : (b : Bool) (w v : Value) (bytes : List ℕ) → w.shown ≡ bytes → (if b then Some w else None) ≡ Some v
    → v.shown ≡ bytes
shown_if true w v bytes shows is = let same : w ≡ v = same_Some w v is in ap (λ (u : Value). u.shown) (sym same) ∙ shows
shown_if false w v bytes shows is = absurd (none-some v is)

shown_some : (w v : Value) (bytes : List ℕ) → w.shown ≡ bytes → Some w ≡ Some v → v.shown ≡ bytes
shown_some w v bytes shows is = let same : w ≡ v = same_Some w v is in ap (λ (u : Value). u.shown) (sym same) ∙ shows

no_sid_is_one : sid_of (codes "1") ≡ None
unfolding sid_of sid_at header_at byte_at sid_of_text step_from
no_sid_is_one = refl

shows_one_by : (s : Syntax) (v : Value) → normal_of s (codes "1") ≡ Some v → v.shown ≡ codes "1"
unfolding normal_of
shows_one_by syntax.Name v is = shown_mapped (λ (dn : Dn). value (codes "1") (key.Bytes (name_key dn))) (codes "1")
    (dn_of (codes "1")) v (λ x. refl) is
shows_one_by syntax.Ascii v is = shown_if (list_all is_ascii (codes "1"))
    (value (codes "1") (key.Bytes (str_to_ascii_lowercase (codes "1")))) v (codes "1") refl is
shows_one_by syntax.Boolean v is = absurd (none-some v is)
shows_one_by syntax.Integer v is = shown_mapped (λ (n : ℤ). value (codes "1") (key.Number n)) (codes "1")
    (number_of 31 (codes "1")) v (λ x. refl) is
shows_one_by syntax.Large v is = shown_mapped (λ (n : ℤ). value (codes "1") (key.Number n)) (codes "1")
    (number_of 63 (codes "1")) v (λ x. refl) is
shows_one_by syntax.Octets v is = shown_some (as_shown (codes "1")) v (codes "1") refl is
shows_one_by syntax.Unicode v is = shown_if (is_utf8 (codes "1")) (value (codes "1") (key.Bytes (folded (codes "1"))))
    v (codes "1") refl is
shows_one_by syntax.Sid v is = absurd (none-some v
    (sym (ap (option_map (λ (sid : SidValue). as_shown (sid_bytes sid))) no_sid_is_one) ∙ is))
shows_one_by syntax.Other v is = shown_some (as_shown (codes "1")) v (codes "1") refl is

read_some : (found : Option Value) (v : Value) → ok_or found fault.Syntax ≡ Ok v → found ≡ Some v
read_some None v is = absurd (cc)
read_some (Some w) v is = let same : w ≡ v = cc in ap (λ (u : Value). Some u) same

pub shows_one : (schema : List SchemaRecord) (mark : Mark) → IsMark schema mark → mark.value.shown ≡ codes "1"
shows_one schema mark is = shows_one_by (syntax_at schema mark.attr) mark.value
    (read_some (normal_of (syntax_at schema mark.attr) (codes "1")) mark.value is.reads)

-- a value of the attribute
pub mark_stored : (schema : List SchemaRecord) (mark : Mark) → IsMark schema mark → IsStored schema mark.attr
    (plain mark.value)
mark_stored schema mark is = (
  is.no_link,
  by_name (is_named schema (codes "unicodePwd") mark.attr)
      (not_password schema mark is),
)
  where
    by_name : (named : Bool) → named ≡ false → IsValueBy named (syntax_at schema mark.attr) mark.value
    by_name true not_named = absurd (false≢true (sym not_named))
    by_name false not_named = subst (λ (shown : List ℕ). normal_or_fault (syntax_at schema mark.attr) shown
        ≡ Ok mark.value) (sym (shows_one schema mark is)) is.reads

-- and it weighs nothing
pub mark_weighs : (schema : List SchemaRecord) (mark : Mark) → IsMark schema mark
    → held_weight schema (held_of mark.attr (plain mark.value ∷ [])) ≡ 0
mark_weighs schema mark is =
    let one : bytes_eq mark.value.shown (codes "1") ≡ true = (bytes_eq-Decides mark.value.shown (codes "1")).1
    (shows_one schema mark is) in
    rw (named_so schema mark is, one) refl
