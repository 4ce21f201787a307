-- The identifier of an object of a sound directory has the form of one: its value shows the bytes that are written
-- for it.
use Rattle.std.proofs.Common.{◌≡◌, ◌∙◌, inl, inr, ℕ, zero, suc, ◌<◌, Bool, true, false, nat_lt, List, [], ◌∷◌, ◌++◌}
use Rattle.std.proofs.Common.{length, Option, Some, None, Ok, Err, refl, sym, ap, subst, arith}
use Rattle.std.specs.Prelude.{slice_get, codes, ◌&&◌, option_map, nat_eq, if◌then◌else◌}
use Rattle.std.specs.Int.{byte_at as byte_of, bytes_high_first, bytes_low_first}
use Rattle.std.specs.List.{AllByRecursion, flat_map}
use Rattle.std.specs.Option.{option_map_or, option_and_then, option_or, ok_or}
use Rattle.std.proofs.lemmas.Bool.{cases_Bool, false≢true, ltb-true, ne_eqb, and_parts}
use Rattle.std.proofs.lemmas.Option.{none-some, same_Some}
use Rattle.ad_bytes.specs.Reading.{IsBytes, Reading}
use Rattle.ad_bytes.specs.Numbers.{be_bytes, le_bytes, byte_at}
use Rattle.ad_bytes.proofs.Steps.{from_bind, from_need}
use Rattle.ad_ids.specs.declared.sid.SidFault.{SidFault}
use Rattle.ad_ids.specs.declared.sid.SidFault.TheVariants.{Count}
use Rattle.ad_ids.specs.SidValue.{SidValue}
use Rattle.ad_ids.specs.Sid.{IsSid, sid_bytes}
use Rattle.ad_ids.specs.SidReading.{header_at, sid_at}
use Rattle.ad_ids.specs.SidFront.{sid_of_text}
use Rattle.ad_ids.proofs.SidCodec.{sid_reader}
use Rattle.ad_value.specs.declared.syntax.Syntax.{Syntax}
use Rattle.ad_value.specs.declared.syntax.Syntax.TheVariants as syntax
use Rattle.ad_value.specs.declared.fault.ValueFault.TheVariants as fault
use Rattle.ad_value.specs.Value.{Value, as_shown}
use Rattle.ad_value.specs.ValueOf.{whole_sid, sid_of, sid_value, normal_of, normal_or_fault}
use Rattle.ad_schema.specs.declared.line.SchemaRecord.{SchemaRecord}
use Rattle.ad_schema.specs.declared.info.AttrId.{AttrId}
use Rattle.ad_schema.specs.declared.info.AttrInfo.{AttrInfo}
use Rattle.ad_schema.specs.declared.meaning.RuleAttr.TheVariants as rule
use Rattle.ad_schema.specs.Attributes.{attrs_of, attr_named}
use Rattle.ad_schema.specs.Meaning.{is_of_sids, counts, if_counts, rule_name, attr_of_rule}
use Rattle.ad_dir_model.specs.Object.{Stored, plain, link, Held, Object, stored_in, first_plain}
use Rattle.ad_dir_model.specs.Objects.{object_at}
use Rattle.ad_dir_model.specs.Tree.{root}
use Rattle.ad_dir_model.specs.Attributes.{attr_place, is_named, syntax_at, rule_place, object_sid}
use Rattle.ad_dir_model.specs.Directory.{Directory}
use Rattle.ad_dir_model.specs.Identity.{first_of_attr, sid_in, domain_sid}
use Rattle.ad_dir_model.specs.Soundness.{IsStored, IsHeld, IsContent, IsValueBy, IsSound}
use Rattle.ad_dir_model.proofs.Finding.{of-live}
use Rattle.ad_dir_model.proofs.AdminCount.{rule_is_named, places_apart}
use Rattle.ad_dir.proofs.ShownLaws.{all_stored}

-- ---- the bytes that are written for an identifier are bytes

byte_below : (k x : ℕ) → byte_of k x < 256
byte_below zero x = omega arith
byte_below (suc k) x = omega arith

IsBytes-nil : IsBytes []
IsBytes-nil zero = omega arith
IsBytes-nil (suc i) = omega arith

IsBytes-cons : (b : ℕ) (bytes : List ℕ) → b < 256 → IsBytes bytes → IsBytes (b ∷ bytes)
IsBytes-cons b bytes below fits zero = below
IsBytes-cons b bytes below fits (suc i) = fits i

IsBytes-both : (xs ys : List ℕ) → IsBytes xs → IsBytes ys → IsBytes (xs ++ ys)
IsBytes-both [] ys f g = g
IsBytes-both (x ∷ xs) ys f g = IsBytes-cons x (xs ++ ys) (f 0) (IsBytes-both xs ys (λ i. f (suc i)) g)

high_bytes : (n x : ℕ) → IsBytes (bytes_high_first n x)
high_bytes zero x = IsBytes-nil
high_bytes (suc n) x = IsBytes-cons (byte_of n x) (bytes_high_first n x) (byte_below n x) (high_bytes n x)

low_bytes : (i n x : ℕ) → IsBytes (bytes_low_first i n x)
low_bytes i zero x = IsBytes-nil
low_bytes i (suc n) x = IsBytes-cons (byte_of i x) (bytes_low_first (suc i) n x) (byte_below i x)
    (low_bytes (suc i) n x)

parts_bytes : (ns : List ℕ) → IsBytes (flat_map (le_bytes 4) ns)
unfolding le_bytes
parts_bytes [] = IsBytes-nil
parts_bytes (n ∷ ns) = IsBytes-both (le_bytes 4 n) (flat_map (le_bytes 4) ns) (low_bytes 0 4 n) (parts_bytes ns)

sid_is_bytes : (s : SidValue) → length s.sub_authorities < 16 → IsBytes (sid_bytes s)
unfolding sid_bytes be_bytes
sid_is_bytes s few =
    let rest = be_bytes 6 s.authority ++ flat_map (le_bytes 4) s.sub_authorities in
    IsBytes-cons 1 (length s.sub_authorities ∷ rest) (omega arith)
    (IsBytes-cons (length s.sub_authorities) rest (omega (arith, few))
    (IsBytes-both (be_bytes 6 s.authority) (flat_map (le_bytes 4) s.sub_authorities) (high_bytes 6 s.authority)
    (parts_bytes s.sub_authorities)))

-- ---- what is read of the bytes of an identifier

header_few : (n m : ℕ) (bytes rest : List ℕ) → header_at (1 ∷ n ∷ bytes) ≡ Ok (m, rest) → n < 16
unfolding header_at byte_at
header_few n m bytes rest is =
    from_need (nat_lt 0 n && nat_lt n 16) (Count n) _ (m, rest) is
    (λ both _. ltb-true n 16 (and_parts (nat_lt 0 n) (nat_lt n 16) both).1)

read_few : (n : ℕ) (bytes : List ℕ) (s : SidValue) (rest : List ℕ) → sid_at (1 ∷ n ∷ bytes) ≡ Ok (s, rest) → n < 16
unfolding sid_at
read_few n bytes s rest is =
    from_bind (header_at (1 ∷ n ∷ bytes)) _ (s, rest) is (λ count first _. header_few n count.0 bytes count.1 first)

-- an identifier that its own bytes are read as
again_is_sid : (s t : SidValue) (rest : List ℕ) → sid_at (sid_bytes s) ≡ Ok (t, rest) → IsSid t
unfolding sid_bytes
again_is_sid s t rest is =
    let few : length s.sub_authorities < 16 = read_few (length s.sub_authorities) _ t rest is in
    (sid_reader.takes (sid_bytes s) t rest (sid_is_bytes s few) is).spelled.0

abbrev pub TextsSpell : Type 0
TextsSpell = (sid : SidValue) (text : List ℕ) → sid_of_text text ≡ Some sid → IsSid sid

read_is_sid : TextsSpell → (s t : SidValue) → sid_of (sid_bytes s) ≡ Some t → IsSid t
unfolding sid_of
read_is_sid texts s t is = by (sid_at (sid_bytes s)) refl is
  where
    by : (r : Reading SidValue SidFault) → sid_at (sid_bytes s) ≡ r → option_or (whole_sid r)
        (sid_of_text (sid_bytes s)) ≡ Some t → IsSid t
    by (Err f) read e = texts t (sid_bytes s) e
    by (Ok found) read e = elim (cases_Bool (nat_eq (length found.1) 0)) [
      | inl all ↦ subst IsSid (same_Some found.0 t (rw all at e)) (again_is_sid s found.0 found.1 read)
      | inr more ↦ texts t (sid_bytes s) (rw more at e)
    ]

-- ---- a value of objectSid

shown_of : (o : Option SidValue) (v : Value) → option_map (λ (s : SidValue). as_shown (sid_bytes s)) o ≡ Some v
    → (s : SidValue) × (v.shown ≡ sid_bytes s)
shown_of None v is = absurd (none-some v is)
shown_of (Some s) v is = (s, ap (λ (u : Value). u.shown) (sym (same_Some (as_shown (sid_bytes s)) v is)))

normal_shown : (bytes : List ℕ) (v : Value) → normal_or_fault syntax.Sid bytes ≡ Ok v → (s : SidValue)
    × (v.shown ≡ sid_bytes s)
unfolding normal_of
normal_shown bytes v is = by_long (nat_lt 1048576 (length bytes)) is
  where
    by_value : (o : Option Value) → sid_value bytes ≡ o → ok_or o fault.Syntax ≡ Ok v → (s : SidValue)
        × (v.shown ≡ sid_bytes s)
    by_value None same e = absurd cc
    by_value (Some u) same e = let own : u ≡ v = cc in shown_of (sid_of bytes) v (same ∙ ap (λ (x : Value). Some x) own)

    by_long : (long : Bool) → (if long then Err fault.TooLong else ok_or (sid_value bytes) fault.Syntax) ≡ Ok v
        → (s : SidValue) × (v.shown ≡ sid_bytes s)
    by_long true e = absurd cc
    by_long false e = by_value (sid_value bytes) refl e

-- ---- the attribute

sids_alone : (s : Syntax) → is_of_sids s ≡ true → s ≡ syntax.Sid
sids_alone syntax.Sid is = refl
sids_alone syntax.Name is = absurd (false≢true is)
sids_alone syntax.Ascii is = absurd (false≢true is)
sids_alone syntax.Boolean is = absurd (false≢true is)
sids_alone syntax.Integer is = absurd (false≢true is)
sids_alone syntax.Large is = absurd (false≢true is)
sids_alone syntax.Octets is = absurd (false≢true is)
sids_alone syntax.Unicode is = absurd (false≢true is)
sids_alone syntax.Other is = absurd (false≢true is)

counted : (found : Option AttrInfo) → option_map_or (counts rule.ObjectSid) found false ≡ true
    → option_map_or (λ (info : AttrInfo). info.syntax) found syntax.Other ≡ syntax.Sid
unfolding counts
counted None is = absurd (false≢true is)
counted (Some info) is = sids_alone info.syntax is

named_sid : (schema : List SchemaRecord) (named : Option AttrId) (attr : ℕ)
    → option_map (λ (id : AttrId). id.0) (option_and_then (if_counts schema rule.ObjectSid) named) ≡ Some attr
    → syntax_at schema attr ≡ syntax.Sid
unfolding if_counts syntax_at
named_sid schema None attr is = absurd (none-some attr is)
named_sid schema (Some id) attr is =
    elim (cases_Bool (option_map_or (counts rule.ObjectSid) (slice_get (attrs_of schema) id.0) false)) [
      | inl does ↦ rw (← same_Some id.0 attr (rw does at is)) (counted (slice_get (attrs_of schema) id.0) does)
      | inr not ↦ absurd (none-some attr (rw not at is))
    ]

sid_syntax : (schema : List SchemaRecord) (attr : ℕ) → object_sid schema ≡ Some attr → syntax_at schema attr
    ≡ syntax.Sid
unfolding rule_place attr_of_rule
sid_syntax schema attr is = named_sid schema (attr_named schema (rule_name rule.ObjectSid)) attr is

no_password : (schema : List SchemaRecord) (attr : ℕ) (named : Option ℕ) → object_sid schema ≡ Some attr
    → attr_place schema (codes "unicodePwd") ≡ named
    → option_map_or (λ (place : ℕ). nat_eq place attr) named false ≡ false
no_password schema attr None is at = refl
no_password schema attr (Some place) is at =
    ne_eqb place attr (λ (e : place ≡ attr). places_apart schema (codes "objectSid") (codes "unicodePwd") attr place
    (rule_is_named schema rule.ObjectSid attr is) at refl (sym e))

-- ---- of an object, and of the domain

held_is : (schema : List SchemaRecord) (values : List Held) → AllByRecursion (IsHeld schema) values
    → AllByRecursion (λ (held : Held). AllByRecursion (IsStored schema held.attr) held.values) values
held_is schema [] all = tt
held_is schema (held ∷ others) all = (all.0.each, held_is schema others all.1)

first_is_sid : TextsSpell → (schema : List SchemaRecord) (attr : ℕ) (stored : List Stored) (value : Value)
    (sid : SidValue)
    → object_sid schema ≡ Some attr → AllByRecursion (IsStored schema attr) stored → first_plain stored ≡ Some value
    → sid_of value.shown ≡ Some sid → IsSid sid
first_is_sid texts schema attr [] value sid is all first read = absurd (none-some value first)
first_is_sid texts schema attr (link n ∷ others) value sid is all first read = absurd (none-some value first)
first_is_sid texts schema attr (plain v ∷ others) value sid is all first read =
    let own : v ≡ value = same_Some v value first in
    let by : IsValueBy (is_named schema (codes "unicodePwd") attr) (syntax_at schema attr) v = all.0.1 in
    let plainly : IsValueBy false (syntax_at schema attr) v
    = subst (λ (b : Bool). IsValueBy b (syntax_at schema attr) v)
    (no_password schema attr (attr_place schema (codes "unicodePwd")) is refl) by in
    let normal : normal_or_fault syntax.Sid v.shown ≡ Ok v = subst (λ (s : Syntax). normal_or_fault s v.shown ≡ Ok v)
    (sid_syntax schema attr is) plainly in
    let shows = normal_shown v.shown v normal in
    let bytes : value.shown ≡ sid_bytes shows.0 = ap (λ (u : Value). u.shown) (sym own) ∙ shows.1 in
    read_is_sid texts shows.0 sid (ap sid_of (sym bytes) ∙ read)

content_is_sid : TextsSpell → (schema : List SchemaRecord) (o : Object) (sid : SidValue) → IsContent schema o
    → sid_in schema o ≡ Some sid → IsSid sid
unfolding sid_in first_of_attr
content_is_sid texts schema o sid content is = by_attr (object_sid schema) refl is
  where
    by_value : (attr : ℕ) (value : Option Value) → object_sid schema ≡ Some attr
        → first_plain (stored_in o.values attr) ≡ value
        → option_and_then (λ (v : Value). sid_of v.shown) value ≡ Some sid → IsSid sid
    by_value attr None at first e = absurd (none-some sid e)
    by_value attr (Some value) at first e = first_is_sid texts schema attr (stored_in o.values attr) value sid at
        (all_stored (IsStored schema) o.values attr (held_is schema o.values content.each)) first e

    by_attr : (attr : Option ℕ) → object_sid schema ≡ attr
        → option_and_then (λ (v : Value). sid_of v.shown)
        (option_and_then (λ (place : ℕ). first_plain (stored_in o.values place)) attr) ≡ Some sid → IsSid sid
    by_attr None at e = absurd (none-some sid e)
    by_attr (Some attr) at e = by_value attr (first_plain (stored_in o.values attr)) at refl e

pub domain_is_sid : TextsSpell → (dir : Directory) (sid : SidValue) → IsSound dir → domain_sid dir ≡ Some sid
    → IsSid sid
unfolding domain_sid
domain_is_sid texts dir sid sound is =
    content_is_sid texts dir.schema (object_at dir.objects root) sid
    (sound.each root (object_at dir.objects root) (of-live dir.objects root sound.frame.root_live)).content is
