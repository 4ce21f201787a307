-- What an object shows, and what a setting says.
use Rattle.std.proofs.Common.{◌≡◌, ℕ, zero, suc, ◌+◌, ◌-◌, ◌<◌, ◌≤◌, Bool, true, false, List, [], ◌∷◌, ◌++◌, length}
use Rattle.std.proofs.Common.{get_or, take, map, reverse, Option, Some, None, Ok, Err, append_assoc, refl, sym, subst}
use Rattle.std.proofs.Common.{ap, ◌∙◌, if◌then◌else◌, arith, inl, inr}
use Rattle.std.specs.Prelude.{filter_map, slice_get, codes, nat_lt, unwrap_or, ◌==◌}
use Rattle.std.specs.Option.{option_map, option_map_or, option_and_then, ok_or}
use Rattle.std.specs.Prelude.{chars}
use Rattle.std.proofs.Math.Utf8.{encode}
use Rattle.std.proofs.lemmas.Str.{IsUtf8-from_is_utf8, chars_past_char}
use Rattle.std.specs.List.{AllByRecursion}
use Rattle.std.specs.Str.{IsUtf8, is_utf8}
use Rattle.std.proofs.lemmas.Bool.{cases_Bool, eqb-true, ne_eqb}
use Rattle.std.proofs.lemmas.Option.{none-some, same_Some}
use Rattle.std.proofs.lemmas.List.{reverse-append, map-append, take_more, take_all}
use Rattle.ad_value.specs.declared.syntax.Syntax.{Syntax}
use Rattle.ad_value.specs.declared.syntax.Syntax.TheVariants as syntax
use Rattle.ad_value.specs.Value.{Value}
use Rattle.ad_value.specs.declared.fault.ValueFault.TheVariants as fault
use Rattle.ad_value.specs.ValueOf.{normal_of, normal_or_fault, text_value}
use Rattle.ad_schema.specs.declared.line.SchemaRecord.{SchemaRecord}
use Rattle.ad_schema.specs.declared.meaning.RuleAttr.TheVariants as rule
use Rattle.ad_schema.specs.declared.info.AttrId.{AttrId}
use Rattle.ad_schema.specs.declared.info.AttrInfo.{AttrInfo}
use Rattle.ad_schema.specs.Attributes.{attrs_of, names_of, attr_named}
use Rattle.ad_schema.specs.Classes.{chain_of, classes_of, class_infos, class_info, superclasses}
use Rattle.ad_schema.specs.Meaning.{attr_is_back_link, attr_of_rule, if_counts, counts, is_of_texts, rule_name}
use Rattle.ad_dir_model.specs.Object.{Object, Stored, plain, link, Held, stored_in, is_held, linked, links_in}
use Rattle.ad_dir_model.specs.Object.{first_plain}
use Rattle.ad_dir_model.specs.Objects.{is_live, object_at}
use Rattle.ad_dir_model.specs.Attributes.{rule_place, attr_place, heuristics, is_named, syntax_at}
use Rattle.ad_dir_model.specs.Identity.{first_of_attr}
use Rattle.ad_dir_model.specs.Soundness.{IsStored, IsHeld, IsContent, IsValueBy}
use Rattle.ad_dir_model.specs.Shown.{computed, class_name, class_names, shown_value, is_naming, shown}
use Rattle.ad_dir_model.specs.Directory.{Directory}
use Rattle.ad_dir_model.specs.Names.{name_text}
use Rattle.ad_schema_classes.specs.Chains.{option_at, naming_by}
use Rattle.ad_schema.specs.declared.line.Line.{Line}
use Rattle.ad_schema.specs.declared.field.Field.TheVariants as field
use Rattle.ad_schema.specs.declared.info.ClassId.{ClassId}
use Rattle.ad_schema.specs.declared.info.ClassInfo.{ClassInfo}
use Rattle.ad_schema.specs.Fields.{text_of}
use Rattle.ad_schema.specs.Sound.{ChainsEnd}
use Rattle.ad_schema.proofs.LookupLemmas.{class_above}
use Rattle.ad_dir_objects.specs.declared.object.Stored.{Stored as StoredIn}
use Rattle.ad_dir_objects.specs.declared.object.Stored.TheVariants as kept
use Rattle.ad_dir_objects.specs.Seen.{stored_seen}
use Rattle.ad_schema.proofs.SchemaLemmas.{composed}
use Rattle.ad_dir_model.proofs.AdminCount.{rule_is_named, places_apart}
use Rattle.ad_dir_model.proofs.Unlinking.{all_front}
use Rattle.ad_dir.specs.Kept.{AreLive}
use Rattle.ad_dir_table.proofs.TextLaws.{utf8_past, no_chars}

-- ---- what is stored of one attribute

-- what holds of each value that an object has holds of those of one attribute
pub all_stored : (P : ℕ → Stored → Type 0) (values : List Held) (attr : ℕ)
    → AllByRecursion (λ (held : Held). AllByRecursion (P held.attr) held.values) values → AllByRecursion (P attr)
    (stored_in values attr)
unfolding stored_in
all_stored P [] attr all = tt
all_stored P (held ∷ others) attr all =
    elim (cases_Bool (is_held attr held)) [
      | inl here ↦ rw here (subst (λ (a : ℕ). AllByRecursion (P a) held.values) (eqb-true held.attr attr here) all.0)
      | inr other ↦ rw other (all_stored P others attr all.1)
    ]

-- its links are live
pub stored_live : (objects : List Object) (values : List Held) (attr : ℕ)
    → AllByRecursion (λ (number : ℕ). is_live objects number ≡ true) (links_in values)
    → AreLive objects (stored_in values attr)
unfolding stored_in links_in
stored_live objects [] attr all = tt
stored_live objects (held ∷ others) attr all =
    let parts = all_front (λ (number : ℕ). is_live objects number ≡ true) (filter_map linked held.values)
    (links_in others) all in
    elim (cases_Bool (is_held attr held)) [
      | inl here ↦ rw here parts.0
      | inr other ↦ rw other (stored_live objects others attr parts.1)
    ]

-- ---- dSHeuristics is a text

counts_text : (found : Option AttrInfo) → option_map_or (counts rule.DsHeuristics) found false ≡ true
    → is_of_texts (option_map_or (λ (info : AttrInfo). info.syntax) found syntax.Other) ≡ true
unfolding counts
counts_text None e = absurd cc
counts_text (Some info) e = e

text_syntax : (schema : List SchemaRecord) (place : ℕ) → heuristics schema ≡ Some place
    → is_of_texts (syntax_at schema place) ≡ true
unfolding rule_place attr_of_rule if_counts syntax_at
text_syntax schema place is = by_named (attr_named schema (rule_name rule.DsHeuristics)) is
  where
    by_named : (named : Option AttrId) → option_map (λ (id : AttrId). id.0)
        (option_and_then (if_counts schema rule.DsHeuristics) named) ≡ Some place
        → is_of_texts (option_map_or (λ (info : AttrInfo). info.syntax) (slice_get (attrs_of schema) place)
        syntax.Other) ≡ true
    by_named None e = absurd (none-some place e)
    by_named (Some id) e =
        elim (cases_Bool (option_map_or (counts rule.DsHeuristics) (slice_get (attrs_of schema) id.0) false)) [
          | inl counted ↦
              let at : id.0 ≡ place = same_Some id.0 place (rw counted at e) in
              rw (← at) (counts_text (slice_get (attrs_of schema) id.0) counted)
          | inr not_counted ↦ absurd (none-some place (rw not_counted at e))
        ]

no_password : (schema : List SchemaRecord) (place : ℕ) → heuristics schema ≡ Some place
    → is_named schema (codes "unicodePwd") place ≡ false
no_password schema place is = by_place (attr_place schema (codes "unicodePwd")) refl
  where
    by_place : (named : Option ℕ) → attr_place schema (codes "unicodePwd") ≡ named
        → option_map_or (λ (p : ℕ). p == place) named false ≡ false
    by_place None e = refl
    by_place (Some other) e = ne_eqb other place
        (λ (same : other ≡ place). places_apart schema (codes "dSHeuristics") (codes "unicodePwd") place other
        (rule_is_named schema rule.DsHeuristics place is) e refl (sym same))

is_text : (kind : Syntax) (bytes : List ℕ) (value : Value) → is_of_texts kind ≡ true → normal_or_fault kind bytes
    ≡ Ok value → is_utf8 bytes ≡ true
unfolding normal_of
is_text syntax.Unicode bytes value e is = by_long (nat_lt 1048576 (length bytes)) is
  where
    by_long : (long : Bool) → (if long then Err fault.TooLong else ok_or (text_value bytes) fault.Syntax) ≡ Ok value
        → is_utf8 bytes ≡ true
    by_long true is = absurd cc
    by_long false is = elim (cases_Bool (is_utf8 bytes)) [
      | inl utf8 ↦ utf8
      | inr other ↦ let bad : Err fault.Syntax ≡ Ok value = rw other at is in absurd cc
    ]
is_text syntax.Name bytes value e is = absurd cc
is_text syntax.Ascii bytes value e is = absurd cc
is_text syntax.Boolean bytes value e is = absurd cc
is_text syntax.Integer bytes value e is = absurd cc
is_text syntax.Large bytes value e is = absurd cc
is_text syntax.Octets bytes value e is = absurd cc
is_text syntax.Sid bytes value e is = absurd cc
is_text syntax.Other bytes value e is = absurd cc

first_text : (schema : List SchemaRecord) (place : ℕ) (stored : List Stored) (value : Value) → heuristics schema
    ≡ Some place → AllByRecursion (IsStored schema place) stored → first_plain stored ≡ Some value
    → IsUtf8 value.shown
first_text schema place [] value is all first = absurd (none-some value first)
first_text schema place (link n ∷ others) value is all first = absurd (none-some value first)
first_text schema place (plain v ∷ others) value is all first =
    let own : v ≡ value = same_Some v value first in
    let by : IsValueBy (is_named schema (codes "unicodePwd") place) (syntax_at schema place) v = all.0.1 in
    let normal : normal_or_fault (syntax_at schema place) v.shown ≡ Ok v
    = subst (λ (b : Bool). IsValueBy b (syntax_at schema place) v) (no_password schema place is) by in
    subst (λ (x : Value). IsUtf8 x.shown) own
    (IsUtf8-from_is_utf8 v.shown (is_text (syntax_at schema place) v.shown v (text_syntax schema place is)
    normal))

each_stored : (schema : List SchemaRecord) (values : List Held) → AllByRecursion (IsHeld schema) values
    → AllByRecursion (λ (held : Held). AllByRecursion (IsStored schema held.attr) held.values) values
each_stored schema [] all = tt
each_stored schema (held ∷ others) all = (all.0.each, each_stored schema others all.1)

-- the first dSHeuristics of an object is UTF-8
pub heuristics_text : (schema : List SchemaRecord) (o : Object) (value : Value) → IsContent schema o
    → first_of_attr (heuristics schema) o ≡ Some value → IsUtf8 value.shown
unfolding first_of_attr
heuristics_text schema o value content is = by_place (heuristics schema) refl is
  where
    by_place : (place : Option ℕ) → heuristics schema ≡ place
        → option_and_then (λ (p : ℕ). first_plain (stored_in o.values p)) place ≡ Some value → IsUtf8 value.shown
    by_place None e first = absurd (none-some value first)
    by_place (Some place) e first = first_text schema place (stored_in o.values place) value e
        (all_stored (IsStored schema) o.values place (each_stored schema o.values content.each)) first

-- ---- the third character

-- what is left behind a character is UTF-8
pub none_there : (rest all : List ℕ) (left place : ℕ) → length rest ≡ 0 → slice_get (chars rest) left
    ≡ slice_get (chars all) place → None ≡ slice_get (chars all) place
none_there rest all left place none so_far = sym (ap (λ (l : List ℕ). slice_get l left) (no_chars rest none)) ∙ so_far

pub first_there : (rest more all : List ℕ) (c left place : ℕ) → IsUtf8 rest → rest ≡ encode c ++ more → left ≡ 0
    → slice_get (chars rest) left ≡ slice_get (chars all) place → Some c ≡ slice_get (chars all) place
first_there rest more all c left place utf8 is none so_far =
    sym (ap (λ (l : List ℕ). slice_get l 0) (chars_past_char rest more c utf8 is)) ∙ ap (slice_get (chars rest))
    (sym none) ∙ so_far

pub first_passed : (rest more all : List ℕ) (c left place : ℕ) → IsUtf8 rest → rest ≡ encode c ++ more
    → (left ≡ 0 → ⊥) → slice_get (chars rest) left ≡ slice_get (chars all) place
    → (slice_get (chars more) (left - 1) ≡ slice_get (chars all) place) × IsUtf8 more
first_passed rest more all c left place utf8 is some so_far = (
  one_on left some ∙ sym (ap (λ (l : List ℕ). slice_get l left) (chars_past_char rest more c utf8 is))
      ∙ so_far,
  utf8_past rest more c utf8 is,
)
  where
    one_on : (n : ℕ) → (n ≡ 0 → ⊥) → slice_get (chars more) (n - 1) ≡ slice_get (c ∷ chars more) n
    one_on zero apart = absurd (apart refl)
    one_on (suc n) apart = let same : suc n - 1 ≡ n = omega arith in ap (slice_get (chars more)) same

-- ---- a link among values

pub live_at : (objects : List Object) (stored : List StoredIn) (i : ℕ) (x : StoredIn)
    → AreLive objects (map stored_seen stored) → i < length stored → x ≡ get_or stored i x
    → AreLive objects (stored_seen x ∷ [])
live_at objects [] i x live lt is = absurd (omega arith)
live_at objects (s ∷ ss) zero x live lt is = rw is (first_live s live)
  where
    first_live : (t : StoredIn) → AreLive objects (map stored_seen (t ∷ ss)) → AreLive objects (stored_seen t ∷ [])
    first_live (kept.Plain v) h = tt
    first_live (kept.Link n) h = (h.0, tt)
live_at objects (s ∷ ss) (suc i) x live lt is = live_at objects ss i x (others_live s live) (omega arith) is
  where
    others_live : (t : StoredIn) → AreLive objects (map stored_seen (t ∷ ss)) → AreLive objects (map stored_seen ss)
    others_live (kept.Plain v) h = h
    others_live (kept.Link n) h = h.1

-- ---- classes

map_reverse : {A B : Type 0} (f : A → B) (xs : List A) → map f (reverse xs) ≡ reverse (map f xs)
map_reverse f [] = refl
map_reverse f (x ∷ xs) =
    ap (map f) (reverse-append (x ∷ []) xs) ∙ map-append f (reverse xs) (x ∷ []) ∙ ap (λ (l : List _). l ++ f x ∷ [])
    (map_reverse f xs) ∙ sym (reverse-append (f x ∷ []) (map f xs))

pub classes_shown : (schema : List SchemaRecord) (kind : Syntax) (class : ℕ)
    → reverse (map (λ (c : ℕ). computed kind (class_name schema c)) (chain_of schema class))
    ≡ map (computed kind) (class_names schema class)
unfolding class_names
classes_shown schema kind class =
    ap reverse (sym (composed (class_name schema) (computed kind) (chain_of schema class)))
    ∙ sym (map_reverse (computed kind) (map (class_name schema) (chain_of schema class)))

-- one class of a chain, and then those above it
pub chain_next : (schema : List SchemaRecord) (class : ℕ) (info : ClassInfo) → ChainsEnd schema → class
    < length (classes_of schema) → slice_get (classes_of schema) class ≡ Some info
    → chain_of schema class ≡ class ∷ option_map_or (λ (c : ClassId). chain_of schema c.0) info.above []
chain_next schema class info ends lt is =
    ends.step class lt ∙ ap (λ (l : List ℕ). class ∷ l) (by_above (option_at (superclasses schema) class)
    ∙ sym (ap (λ (o : Option ClassId). option_map_or (λ (c : ClassId). chain_of schema c.0) o [])
    (class_above schema class info is)))
  where
    by_above : (above : Option ℕ) → option_map_or (chain_of schema) above []
        ≡ option_map_or (λ (c : ClassId). chain_of schema c.0) (option_map (λ (k : ℕ). record { 0 = k }) above) []
    by_above None = refl
    by_above (Some k) = refl

infos_name : (above own : List (Option ℕ)) (cn n i : ℕ) (lines : List (List Line)) (info : ClassInfo)
    → slice_get (class_infos above own cn n lines) i ≡ Some info → slice_get (map (text_of field.DisplayName) lines) i
    ≡ Some info.name
unfolding class_infos class_info
infos_name above own cn n i [] info is = absurd (none-some info is)
infos_name above own cn n zero (l ∷ lines) info is = ap (λ (x : ClassInfo). Some x.name)
    (same_Some (class_info (option_at above n) (naming_by above own cn n) l) info is)
infos_name above own cn n (suc i) (l ∷ lines) info is = infos_name above own cn (n + 1) i lines info is

pub class_name_at : (schema : List SchemaRecord) (class : ℕ) (info : ClassInfo) → slice_get (classes_of schema) class
    ≡ Some info → info.name ≡ class_name schema class
unfolding classes_of class_name names_of
class_name_at schema class info is = sym (ap (λ (o : Option (List ℕ)). unwrap_or o [])
    (infos_name _ _ _ 0 class _ info is))

-- ---- what is shown, case by case

module _ (dir : Directory) (number attr : ℕ) where
  abbrev if_naming : Bool → List Value
  if_naming t = if t then computed (syntax_at dir.schema attr) (object_at dir.objects number).name ∷ []
      else (if attr_is_back_link dir.schema attr then [] else map (shown_value dir (syntax_at dir.schema attr))
      (stored_in (object_at dir.objects number).values attr))

  abbrev if_dn : Bool → List Value
  if_dn t = if t then computed (syntax_at dir.schema attr) (name_text dir number) ∷ []
      else if_naming (is_naming dir.schema (object_at dir.objects number).class attr)

  abbrev if_class : Bool → List Value
  if_class t = if t then map (computed (syntax_at dir.schema attr))
      (class_names dir.schema (object_at dir.objects number).class)
      else if_dn (is_named dir.schema (codes "distinguishedName") attr)

  whole : if_class (is_named dir.schema (codes "objectClass") attr) ≡ shown dir number attr
  unfolding shown
  whole = refl

  module _ (schema : List SchemaRecord) (same : schema ≡ dir.schema) (kind : Syntax)
      (syntax_is : kind ≡ syntax_at schema attr) where
    kind_is : kind ≡ syntax_at dir.schema attr
    kind_is = syntax_is ∙ ap (λ (s : List SchemaRecord). syntax_at s attr) same

    named : (name : List ℕ) (t : Bool) → is_named schema name attr ≡ t → is_named dir.schema name attr ≡ t
    named name t is = ap (λ (s : List SchemaRecord). is_named s name attr) (sym same) ∙ is

    pub shows_classes : (class : ℕ) → class ≡ (object_at dir.objects number).class
        → is_named schema (codes "objectClass") attr ≡ true → map (computed kind) (class_names schema class)
        ≡ shown dir number attr
    shows_classes class is t =
        ap (λ (k : Syntax). map (computed k) (class_names schema class)) kind_is
        ∙ ap (λ (s : List SchemaRecord). map (computed (syntax_at dir.schema attr)) (class_names s class)) same
        ∙ ap (λ (c : ℕ). map (computed (syntax_at dir.schema attr)) (class_names dir.schema c)) is
        ∙ sym (ap if_class (named (codes "objectClass") true t)) ∙ whole

    pub shows_name : is_named schema (codes "objectClass") attr ≡ false → is_named schema (codes "distinguishedName")
        attr ≡ true → computed kind (name_text dir number) ∷ [] ≡ shown dir number attr
    shows_name f t =
        ap (λ (k : Syntax). computed k (name_text dir number) ∷ []) kind_is
        ∙ sym (ap if_class (named (codes "objectClass") false f)
        ∙ ap if_dn (named (codes "distinguishedName") true t)) ∙ whole

    module _ (f : is_named schema (codes "objectClass") attr ≡ false)
        (g : is_named schema (codes "distinguishedName") attr ≡ false) where
      others : (t : Bool) (class : ℕ) → class ≡ (object_at dir.objects number).class → is_naming schema class attr ≡ t
          → if_naming t ≡ shown dir number attr
      others t class is n =
          sym (ap if_class (named (codes "objectClass") false f) ∙ ap if_dn (named (codes "distinguishedName") false g)
          ∙ ap if_naming (ap (λ (c : ℕ). is_naming dir.schema c attr) (sym is)
          ∙ ap (λ (s : List SchemaRecord). is_naming s class attr) (sym same) ∙ n)) ∙ whole

      pub shows_naming : (class : ℕ) (name : List ℕ) → class ≡ (object_at dir.objects number).class → name
          ≡ (object_at dir.objects number).name → is_naming schema class attr ≡ true → computed kind name ∷ []
          ≡ shown dir number attr
      shows_naming class name is own_name t = ap (λ (k : Syntax). computed k name ∷ []) kind_is
          ∙ ap (λ (n : List ℕ). computed (syntax_at dir.schema attr) n ∷ []) own_name ∙ others true class is t

      pub shows_none : (class : ℕ) → class ≡ (object_at dir.objects number).class → is_naming schema class attr
          ≡ false → attr_is_back_link schema attr ≡ true → [] ≡ shown dir number attr
      shows_none class is n t =
          sym (ap (λ (b : Bool). if b then [] else map (shown_value dir (syntax_at dir.schema attr))
          (stored_in (object_at dir.objects number).values attr))
          (ap (λ (s : List SchemaRecord). attr_is_back_link s attr) (sym same) ∙ t)) ∙ others false class is n

      pub shows_stored : (class : ℕ) (stored : List Stored) → class ≡ (object_at dir.objects number).class → stored
          ≡ stored_in (object_at dir.objects number).values attr → is_naming schema class attr ≡ false
          → attr_is_back_link schema attr ≡ false
          → map (shown_value dir kind) stored ≡ shown dir number attr
      shows_stored class stored is own_stored n b =
          ap (λ (k : Syntax). map (shown_value dir k) stored) kind_is
          ∙ ap (map (shown_value dir (syntax_at dir.schema attr))) own_stored
          ∙ sym (ap (λ (t : Bool). if t then [] else map (shown_value dir (syntax_at dir.schema attr))
          (stored_in (object_at dir.objects number).values attr))
          (ap (λ (s : List SchemaRecord). attr_is_back_link s attr) (sym same) ∙ b)) ∙ others false class is n

-- ---- steps of the walk up a chain

pub shorter : (schema : List SchemaRecord) (class : ℕ) (info : ClassInfo) → ChainsEnd schema → class
    < length (classes_of schema) → slice_get (classes_of schema) class ≡ Some info
    → length (option_map_or (λ (c : ClassId). chain_of schema c.0) info.above []) < length (chain_of schema class)
shorter schema class info ends lt is = let next = ap length (chain_next schema class info ends lt is)
    in omega (arith, next)

pub one_pushed : (schema : List SchemaRecord) (kind : Syntax) (class : ℕ) (info : ClassInfo) → ChainsEnd schema
    → class < length (classes_of schema) → slice_get (classes_of schema) class ≡ Some info
    → (values new : List Value) (name : List ℕ) (v : Value) (all : List Value) → name ≡ info.name → v
    ≡ computed kind name → new ≡ values ++ v ∷ []
    → values ++ map (λ (c : ℕ). computed kind (class_name schema c)) (chain_of schema class) ≡ all
    → new ++ map (λ (c : ℕ). computed kind (class_name schema c))
    (option_map_or (λ (c : ClassId). chain_of schema c.0) info.above []) ≡ all
one_pushed schema kind class info ends lt is values new name v all named made pushed so_far =
    ap (λ (l : List Value). l ++ map (λ (c : ℕ). computed kind (class_name schema c))
    (option_map_or (λ (c : ClassId). chain_of schema c.0) info.above []))
    (pushed ∙ ap (λ (x : Value). values ++ x ∷ [])
    (made ∙ ap (computed kind) (named ∙ class_name_at schema class info is)))
    ∙ append_assoc values (computed kind (class_name schema class) ∷ []) _
    ∙ sym (ap (λ (l : List ℕ). values ++ map (λ (c : ℕ). computed kind (class_name schema c)) l)
    (chain_next schema class info ends lt is)) ∙ so_far

-- ---- steps of the walk over the values

pub one_more_shown : (dir : Directory) (kind : Syntax) (stored : List StoredIn) (i : ℕ) (x : StoredIn)
    (values new : List Value) (v : Value) → i < length stored → x ≡ get_or stored i x → v
    ≡ shown_value dir kind (stored_seen x) → new ≡ values ++ v ∷ []
    → values ≡ map (λ (s : StoredIn). shown_value dir kind (stored_seen s)) (take i stored) → new
    ≡ map (λ (s : StoredIn). shown_value dir kind (stored_seen s)) (take (i + 1) stored)
one_more_shown dir kind stored i x values new v lt is made pushed so_far =
    pushed ∙ ap (λ (l : List Value). l ++ v ∷ []) so_far
    ∙ ap (λ (y : Value). map (λ (s : StoredIn). shown_value dir kind (stored_seen s)) (take i stored) ++ y ∷ [])
    (made ∙ ap (λ (s : StoredIn). shown_value dir kind (stored_seen s)) is)
    ∙ sym (map-append (λ (s : StoredIn). shown_value dir kind (stored_seen s)) (take i stored) (get_or stored i x ∷ []))
    ∙ sym (ap (map (λ (s : StoredIn). shown_value dir kind (stored_seen s))) (take_more stored i x lt))

pub all_shown : (dir : Directory) (kind : Syntax) (stored : List StoredIn) (i : ℕ) (values : List Value)
    → length stored ≤ i → values ≡ map (λ (s : StoredIn). shown_value dir kind (stored_seen s)) (take i stored)
    → values ≡ map (shown_value dir kind) (map stored_seen stored)
all_shown dir kind stored i values le so_far =
    so_far ∙ ap (map (λ (s : StoredIn). shown_value dir kind (stored_seen s))) (take_all i stored le)
    ∙ sym (composed stored_seen (shown_value dir kind) stored)
