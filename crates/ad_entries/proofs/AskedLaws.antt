-- The attributes that names lead to, and the flags of those that are asked for.
use Rattle.std.proofs.Common.{◌≡◌, ℕ, zero, suc, ◌+◌, ◌<◌, Bool, true, false, ◌||◌, List, [], ◌∷◌, ◌++◌, length}
use Rattle.std.proofs.Common.{map, set, replicate, drop, get_or, Option, Some, None, inl, inr}
use Rattle.std.proofs.Common.{refl, sym, ap, ◌∙◌, arith}
use Rattle.std.specs.Prelude.{nat_eq, ◌==◌, slice_get, codes, position}
use Rattle.std.specs.Option.{option_map, option_map_or}
use Rattle.std.specs.List.{list_any}
use Rattle.std.specs.Char.{to_ascii_lowercase}
use Rattle.std.specs.Str.{bytes_eq}
use Rattle.std.proofs.lemmas.Bool.{both_ways, eqb-true, eqb-false, ne_eqb, cases_Bool, cases_lt}
use Rattle.std.proofs.lemmas.Grind.{get_or-set_at}
use Rattle.std.proofs.lemmas.List.{get_or-set_other, get_or_past, get_or-replicate, length-set, length-replicate}
use Rattle.std.proofs.lemmas.List.Folds.{list_any-append}
use Rattle.std.proofs.lemmas.Option.{slice_get_cases}
use Rattle.std.proofs.lemmas.Slice.Eq.{bytes_eq-Decides}
use Rattle.std.proofs.lemmas.Bool.Decides.{nat_tests}
use Rattle.ad_schema_classes.specs.Names.{same_name, place_of}
use Rattle.ad_schema_classes.proofs.IndexLemmas.{position_here, position_next}
use Rattle.ad_schema.specs.declared.info.AttrId.{AttrId}
use Rattle.ad_schema.specs.declared.info.AttrInfo.{AttrInfo}
use Rattle.ad_schema.specs.declared.line.SchemaKind.TheVariants.{Attribute}
use Rattle.ad_schema.specs.declared.line.SchemaRecord.{SchemaRecord}
use Rattle.ad_schema.specs.Attributes.{names_of, attrs_of, attr_named}
use Rattle.ad_schema.specs.Sound.{NamesAreDistinct}
use Rattle.ad_dir_objects.proofs.AttrNames.{named_at}
use Rattle.ad_dir_model.specs.Attributes.{attr_place, is_named}
use Rattle.ad_entries.specs.Entry.{asks_for, is_asked}
use Rattle.ad_entries.specs.Rising.{is_in}
use Rattle.ad_entries.specs.Places.{is_asked_of, is_asked_at}
use Rattle.ad_entries.specs.Asked.{AsksAll, AreFlags, LeavesUnflagged, Flags, LeavesUnasked, PushesNamed}
use Rattle.ad_entries.specs.Asked.{LeavesUncomputed}
use Rattle.ad_dir_model.proofs.AdminCount.{places_apart}
use Rattle.ad_entries.proofs.ListLaws.{neither, apart, or_true, or_none}

-- ---- a name that is pushed

pub pushed_one : (schema : List SchemaRecord) (name old : List ℕ) (id : AttrId) → attr_named schema name ≡ Some id
    → PushesNamed schema name old (old ++ id.0 ∷ [])
pushed_one schema name old id is attr not_there =
    let parts = neither (is_in attr old) (is_in attr (id.0 ∷ [])) (sym (list_any-append (nat_eq attr) old (id.0 ∷ []))
    ∙ not_there) in
    let other : nat_eq attr id.0 ≡ false = (neither (nat_eq attr id.0) false parts.1).0 in (
      parts.0,
      ap (λ (found : Option AttrId). option_map_or (λ (place : ℕ). place == attr)
          (option_map (λ (i : AttrId). i.0) found) false) is
          ∙ apart id.0 attr (λ (e : id.0 ≡ attr). differ attr id.0 other (sym e)),
    )
  where
    differ : (a b : ℕ) → nat_eq a b ≡ false → a ≡ b → ⊥
    differ a b apart_by e = let same : nat_eq a b ≡ true = grind (arith, nat_tests) in absurd (both_ways (nat_eq a b)
        apart_by same)

pub pushed_none : (schema : List SchemaRecord) (name old : List ℕ) → attr_named schema name ≡ None
    → PushesNamed schema name old old
pushed_none schema name old is attr not_there = (
  not_there,
  ap (λ (found : Option AttrId). option_map_or (λ (place : ℕ). place == attr)
      (option_map (λ (i : AttrId). i.0) found) false) is,
)

-- one after the other
pub three_pushed : (schema : List SchemaRecord) (one two three : List ℕ)
    → PushesNamed schema (codes "objectClass") [] one → PushesNamed schema (codes "distinguishedName") one two
    → PushesNamed schema (codes "name") two three → LeavesUncomputed schema three
three_pushed schema one two three first second third attr not_there =
    let c = third attr not_there in
    let b = second attr c.0 in
    let a = first attr b.0 in
    record { no_class = a.1; no_dn = b.1; no_name = c.1 }

-- ---- a name that is asked for

-- names are the same where they are the same in lower case
lowered : (a b : List ℕ) → same_name a b ≡ true → map to_ascii_lowercase a ≡ map to_ascii_lowercase b
unfolding same_name
lowered a b same = (bytes_eq-Decides (map to_ascii_lowercase a) (map to_ascii_lowercase b)).0 same

same_by_lower : (x a b : List ℕ) → map to_ascii_lowercase a ≡ map to_ascii_lowercase b → same_name x a ≡ same_name x b
unfolding same_name
same_by_lower x a b same = ap (λ (l : List ℕ). bytes_eq (map to_ascii_lowercase x) l) same

position_so : (p q : List ℕ → Bool) (names : List (List ℕ)) → ((x : List ℕ) → p x ≡ q x) → position p names
    ≡ position q names
position_so p q [] same = refl
position_so p q (x ∷ xs) same = elim (cases_Bool (q x)) [
  | inl has_it ↦ position_here p x xs (same x ∙ has_it) ∙ sym (position_here q x xs has_it)
  | inr lacks ↦ position_next p x xs (same x ∙ lacks)
      ∙ ap (λ (found : Option ℕ). option_map (λ (k : ℕ). suc k) found) (position_so p q xs same)
      ∙ sym (position_next q x xs lacks)
]

-- the attribute of a name is found by each name that is the same
leads_to : (schema : List SchemaRecord) (attr : ℕ) (info : AttrInfo) (sent : List ℕ) → NamesAreDistinct schema
    → slice_get (attrs_of schema) attr ≡ Some info → same_name info.name sent ≡ true → is_named schema sent attr ≡ true
unfolding attr_named place_of
leads_to schema attr info sent distinct is same =
    let names : List (List ℕ) = names_of Attribute schema in
    let own : place_of names info.name ≡ Some attr = distinct.attrs attr info.name (named_at schema attr info is) in
    let found : position (λ (other : List ℕ). same_name other sent) names ≡ Some attr
    = position_so (λ (other : List ℕ). same_name other sent) (λ (other : List ℕ). same_name other info.name) names
    (λ x. sym (same_by_lower x info.name sent (lowered info.name sent same))) ∙ own in
    ap (λ (place : Option ℕ). option_map_or (λ (p : ℕ). p == attr)
    (option_map (λ (id : AttrId). id.0) (option_map (λ (n : ℕ). record { 0 = n }) place)) false) found ∙ itself attr
  where
    itself : (n : ℕ) → (n == n) ≡ true
    itself n = grind (arith, nat_tests)

-- and by no other one
elsewhere : (schema : List SchemaRecord) (attr : ℕ) (info : AttrInfo) (sent : List ℕ) → NamesAreDistinct schema
    → slice_get (attrs_of schema) attr ≡ Some info → same_name info.name sent ≡ false
    → is_named schema sent attr ≡ false
unfolding attr_named same_name
elsewhere schema attr info sent distinct is differ = by (attr_place schema sent) refl
  where
    own : attr_place schema info.name ≡ Some attr
    own = ap (λ (place : Option ℕ). option_map (λ (id : AttrId). id.0) (option_map (λ (n : ℕ). record { 0 = n }) place))
        (distinct.attrs attr info.name (named_at schema attr info is))

    by : (found : Option ℕ) → attr_place schema sent ≡ found → option_map_or (λ (place : ℕ). place == attr) found false
        ≡ false
    by None at = refl
    by (Some place) at = ne_eqb place attr (λ (e : place ≡ attr). places_apart schema info.name sent attr place own at
        differ (sym e))

named_so : (schema : List SchemaRecord) (attr : ℕ) (info : AttrInfo) (sent : List ℕ) → NamesAreDistinct schema
    → slice_get (attrs_of schema) attr ≡ Some info → same_name info.name sent ≡ is_named schema sent attr
named_so schema attr info sent distinct is = elim (cases_Bool (same_name info.name sent)) [
  | inl same ↦ same ∙ sym (leads_to schema attr info sent distinct is same)
  | inr differ ↦ differ ∙ sym (elsewhere schema attr info sent distinct is differ)
]

-- ---- a flag that is set

pub flag_set : (flags : List Bool) (named : List ℕ) (place : ℕ) → place < length flags
    → Flags (λ (other : ℕ). place == other) flags (set flags place true) named (named ++ place ∷ [])
flag_set flags named place lt = record {
  len = length-set flags place true;
  each = λ other. by other (place == other) refl;
  named = λ unflagged other not_there. (
      let parts = neither (is_in other named) (is_in other (place ∷ []))
      (sym (list_any-append (nat_eq other) named (place ∷ [])) ∙ not_there) in
      let differ : nat_eq other place ≡ false = (neither (nat_eq other place) false parts.1).0 in
      get_or-set_other flags place other true false (λ (e : other ≡ place). eqb-false other place differ e)
      ∙ unflagged other parts.0);
}
  where
    by : (other : ℕ) (same : Bool) → (place == other) ≡ same
        → get_or (set flags place true) other false ≡ (get_or flags other false || (place == other))
    by other true is =
        get_or-set_at flags place other true false (sym (eqb-true place other is)) lt
        ∙ sym (ap (λ (b : Bool). get_or flags other false || b) is ∙ or_true (get_or flags other false))
    by other false is =
        get_or-set_other flags place other true false (λ (e : other ≡ place). eqb-false place other is (sym e))
        ∙ sym (ap (λ (b : Bool). get_or flags other false || b) is ∙ or_none (get_or flags other false))

-- one that is set already
pub flag_there : (flags : List Bool) (named : List ℕ) (place : ℕ) → get_or flags place false ≡ true
    → Flags (λ (other : ℕ). place == other) flags flags named named
flag_there flags named place is = record {
  len = refl;
  each = λ other. by other (place == other) refl;
  named = λ unflagged. unflagged;
}
  where
    by : (other : ℕ) (same : Bool) → (place == other) ≡ same → get_or flags other false
        ≡ (get_or flags other false || (place == other))
    by other true at =
        let there : get_or flags other false ≡ true
        = ap (λ (n : ℕ). get_or flags n false) (sym (eqb-true place other at)) ∙ is in
        there ∙ sym (ap (λ (b : Bool). b || (place == other)) there)
    by other false at = sym (ap (λ (b : Bool). get_or flags other false || b) at ∙ or_none (get_or flags other false))

-- a name that leads nowhere sets none
pub none_flagged : (schema : List SchemaRecord) (name : List ℕ) (flags : List Bool) (named : List ℕ)
    → attr_named schema name ≡ None → Flags (is_named schema name) flags flags named named
none_flagged schema name flags named is = record {
  len = refl;
  each = λ other. sym (ap (λ (b : Bool). get_or flags other false || b)
      (ap (λ (found : Option AttrId). option_map_or (λ (place : ℕ). place == other)
      (option_map (λ (i : AttrId). i.0) found) false) is) ∙ or_none (get_or flags other false));
  named = λ unflagged. unflagged;
}

-- ---- the flags of what is asked for

-- The flags are of the schema, those that are set are named, and with the names that are left they tell what is asked.
pub record SoFar (schema : List SchemaRecord) (sent : List (List ℕ)) (flags : List Bool) (named : List ℕ) (i : ℕ)
    : Type 0 where
  pub len : length flags ≡ length (attrs_of schema)
  pub each : (attr : ℕ) (info : AttrInfo) → slice_get (attrs_of schema) attr ≡ Some info
      → (get_or flags attr false || list_any (asks_for info.name) (drop i sent)) ≡ list_any (asks_for info.name) sent
  pub listed : LeavesUnflagged flags named

abbrev unset : Bool
unset = false

none_set : (n attr : ℕ) → get_or (replicate n unset) attr false ≡ false
none_set n attr = elim (cases_lt attr n) [
  | inl within ↦ get_or-replicate n attr false false within
  | inr past ↦ get_or_past (replicate n unset) attr false
      (let long : length (replicate n unset) ≡ n = length-replicate n unset in omega (arith, past, long))
]

pub none_begins : (schema : List SchemaRecord) (sent : List (List ℕ))
    → SoFar schema sent (replicate (length (attrs_of schema)) false) [] 0
none_begins schema sent = record {
  len = length-replicate (length (attrs_of schema)) unset;
  each = λ attr info is. ap (λ (b : Bool). b || list_any (asks_for info.name) sent)
      (none_set (length (attrs_of schema)) attr);
  listed = λ attr not_there. none_set (length (attrs_of schema)) attr;
}

pub one_more : (schema : List SchemaRecord) (sent : List (List ℕ)) (old new : List Bool) (before after : List ℕ) (i : ℕ)
    (asked : List ℕ) → NamesAreDistinct schema → drop i sent ≡ asked ∷ drop (i + 1) sent
    → bytes_eq asked (codes "*") ≡ false → Flags (is_named schema asked) old new before after
    → SoFar schema sent old before i → SoFar schema sent new after (i + 1)
one_more schema sent old new before after i asked distinct front some flags so = record {
  len = flags.len ∙ so.len;
  each = λ attr info is. (
      let rest = list_any (asks_for info.name) (drop (i + 1) sent) in
      let step : list_any (asks_for info.name) (drop i sent) ≡ (is_named schema asked attr || rest)
      = ap (list_any (asks_for info.name)) front
      ∙ ap (λ (b : Bool). (b || same_name info.name asked) || rest) some
      ∙ ap (λ (b : Bool). b || rest) (named_so schema attr info asked distinct is) in
      ap (λ (b : Bool). b || rest) (flags.each attr)
      ∙ grouped (get_or old attr false) (is_named schema asked attr) rest
      ∙ sym (ap (λ (b : Bool). get_or old attr false || b) step) ∙ so.each attr info is);
  listed = flags.named so.listed;
}
  where
    grouped : (a b c : Bool) → ((a || b) || c) ≡ (a || (b || c))
    grouped true b c = refl
    grouped false b c = refl

-- beyond the schema nothing is asked for
past_all : (schema : List SchemaRecord) (sent : List (List ℕ)) (attr : ℕ) → slice_get (attrs_of schema) attr ≡ None
    → is_asked_at schema sent attr ≡ false
unfolding is_asked_at
past_all schema sent attr is = ap (is_asked_of sent) is

asked_there : (schema : List SchemaRecord) (sent : List (List ℕ)) (attr : ℕ) (info : AttrInfo)
    → slice_get (attrs_of schema) attr ≡ Some info → is_asked_at schema sent attr ≡ is_asked sent info.name
unfolding is_asked_at
asked_there schema sent attr info is = ap (is_asked_of sent) is

pub flags_end : (schema : List SchemaRecord) (sent : List (List ℕ)) (flags : List Bool) (named : List ℕ) (i : ℕ)
    → (length sent == 0) ≡ false → drop i sent ≡ [] → SoFar schema sent flags named i → AreFlags schema sent flags
unfolding is_asked
flags_end schema sent flags named i some ends so attr = elim (slice_get_cases (attrs_of schema) attr).1 [
  | inl here ↦
      sym (or_none (get_or flags attr false))
      ∙ sym (ap (λ (left : List (List ℕ)). get_or flags attr false || list_any (asks_for here.0.name) left) ends)
      ∙ so.each attr here.0 here.2
      ∙ sym (ap (λ (b : Bool). b || list_any (asks_for here.0.name) sent) some)
      ∙ sym (asked_there schema sent attr here.0 here.2)
  | inr past ↦
      get_or_past flags attr false (omega (arith, past.0, so.len)) ∙ sym (past_all schema sent attr past.1)
]

-- what isn't named isn't asked for
pub leaves_unasked : (schema : List SchemaRecord) (sent : List (List ℕ)) (flags : List Bool) (named : List ℕ)
    → AreFlags schema sent flags → LeavesUnflagged flags named → LeavesUnasked schema sent named
leaves_unasked schema sent flags named are unflagged attr not_there = sym (are attr) ∙ unflagged attr not_there

-- ---- where all are asked for

abbrev is_set : Bool
is_set = true

pub all_set : (schema : List SchemaRecord) (sent : List (List ℕ)) → AsksAll sent
    → AreFlags schema sent (replicate (length (attrs_of schema)) true)
all_set schema sent all attr = elim (slice_get_cases (attrs_of schema) attr).1 [
  | inl here ↦
      get_or-replicate (length (attrs_of schema)) attr true false here.1
      ∙ sym (asked_there schema sent attr here.0 here.2 ∙ all here.0.name)
  | inr past ↦
      get_or_past (replicate (length (attrs_of schema)) is_set) attr false
      (let long : length (replicate (length (attrs_of schema)) is_set) ≡ length (attrs_of schema)
      = length-replicate (length (attrs_of schema)) is_set in omega (arith, past.0, long))
      ∙ sym (past_all schema sent attr past.1)
]

pub all_by_none : (sent : List (List ℕ)) → (length sent == 0) ≡ true → AsksAll sent
unfolding is_asked
all_by_none sent none name = ap (λ (b : Bool). b || list_any (asks_for name) sent) none

any_left : {X : Type 0} (test : X → Bool) (i : ℕ) (xs : List X) → list_any test (drop i xs) ≡ true → list_any test xs
    ≡ true
any_left test zero xs is = is
any_left test (suc i) [] is = is
any_left test (suc i) (x ∷ xs) is = ap (λ (b : Bool). test x || b) (any_left test i xs is) ∙ or_true (test x)

pub all_by_every : (sent : List (List ℕ)) (i : ℕ) (asked : List ℕ) → drop i sent ≡ asked ∷ drop (i + 1) sent
    → bytes_eq asked (codes "*") ≡ true → AsksAll sent
unfolding is_asked
all_by_every sent i asked front every name =
    ap (λ (b : Bool). (length sent == 0) || b) (any_left (asks_for name) i sent (ap (list_any (asks_for name)) front
    ∙ ap (λ (b : Bool). (b || same_name name asked) || list_any (asks_for name) (drop (i + 1) sent)) every))
    ∙ or_true (length sent == 0)
