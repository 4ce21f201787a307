-- The domain's identifier in a sound directory has its ranges: what the root's objectSid shows is written from an
-- identifier.
use Rattle.std.proofs.Common.{◌≡◌, ℕ, zero, suc, ◌/◌, ◌^◌, ◌<◌, Bool, true, false, List, [], ◌∷◌, ◌++◌, length}
use Rattle.std.proofs.Common.{Option, Some, None, Ok, Err, codes, refl, sym, ap, subst, ◌∙◌, arith, inl, inr}
use Rattle.std.specs.Prelude.{IfSome, find, nat_eq, nat_lt, slice_get, ◌&&◌, ◌==◌, if◌then◌else◌}
use Rattle.std.specs.Int.{byte_at as byte_of, bytes_high_first, bytes_low_first}
use Rattle.std.specs.List.{AllByRecursion, flat_map, position}
use Rattle.std.specs.Option.{option_map, option_map_or, option_or, ok_or}
use Rattle.std.specs.Str.{str_to_ascii_lowercase}
use Rattle.std.proofs.lemmas.Bool.{cases_Bool, and_parts, eqb-true, ltb-true, false≢true}
use Rattle.std.proofs.Math.Nat.{mod-lt}
use Rattle.std.proofs.lemmas.Slice.Eq.{bytes_eq-Decides}
use Rattle.std.proofs.lemmas.Option.{same_Some, none-some, cond_some, option_and_then_some}
use Rattle.ad_bytes.proofs.Steps.{from_bind, from_need, from_ok}
use Rattle.ad_bytes.specs.Reading.{IsBytes, Reading}
use Rattle.ad_bytes.specs.Numbers.{byte_at, be_bytes, le_bytes}
use Rattle.ad_ids.specs.declared.sid.SidFault.{SidFault}
use Rattle.ad_ids.specs.SidValue.{SidValue}
use Rattle.ad_ids.specs.Sid.{IsSid, sid_bytes}
use Rattle.ad_ids.specs.SidReading.{header_at, sid_at}
use Rattle.ad_ids.specs.SidFront.{sid_of_text}
use Rattle.ad_ids.proofs.SidCodec.{sid_reader}
use Rattle.ad_ids.proofs.SidFront.{spells_of}
use Rattle.ad_value.specs.declared.syntax.Syntax.{Syntax}
use Rattle.ad_value.specs.declared.syntax.Syntax.TheVariants as syntax
use Rattle.ad_value.specs.Value.{Value, as_shown}
use Rattle.ad_value.specs.ValueOf.{whole_sid, sid_of, normal_of, normal_or_fault}
use Rattle.ad_schema_classes.specs.Names.{same_name, place_of}
use Rattle.ad_schema_classes.proofs.IndexLemmas.{position_here, position_next}
use Rattle.ad_schema.specs.declared.info.AttrId.{AttrId}
use Rattle.ad_schema.specs.declared.info.AttrInfo.{AttrInfo}
use Rattle.ad_schema.specs.declared.line.SchemaKind.TheVariants.{Attribute}
use Rattle.ad_schema.specs.declared.line.SchemaRecord.{SchemaRecord}
use Rattle.ad_schema.specs.declared.meaning.RuleAttr.TheVariants as rule
use Rattle.ad_schema.specs.Attributes.{names_of, attrs_of, attr_named}
use Rattle.ad_schema.specs.Meaning.{is_of_sids, counts, if_counts, attr_of_rule}
use Rattle.ad_dir_model.specs.Object.{Stored, plain, link, Held, Object, is_held, stored_in, first_plain}
use Rattle.ad_dir_model.specs.Objects.{object_at}
use Rattle.ad_dir_model.specs.Tree.{root}
use Rattle.ad_dir_model.specs.Attributes.{is_named, syntax_at, rule_place, object_sid}
use Rattle.ad_dir_model.specs.Identity.{first_of_attr, sid_in, domain_sid}
use Rattle.ad_dir_model.specs.Directory.{Directory}
use Rattle.ad_dir_model.specs.Soundness.{IsPlainValue, IsStored, IsHeld, IsContent, IsSound}
use Rattle.ad_dir_model.proofs.Finding.{of-live}
use Rattle.ad_ldifmod_laws.proofs.Mapped.{map_some}
use Rattle.ad_ldifmod_laws.proofs.Ranges.{bytes_of}

-- ---- bytes

abbrev AreSmall : List ℕ → Type 0
AreSmall xs = AllByRecursion (λ b. b < 256) xs

small_both : (xs ys : List ℕ) → AreSmall xs → AreSmall ys → AreSmall (xs ++ ys)
small_both [] ys first second = second
small_both (x ∷ xs) ys first second = (first.0, small_both xs ys first.1 second)

one_small : (i n : ℕ) → byte_of i n < 256
one_small zero n = omega arith
one_small (suc i) n = mod-lt (n / 256 ^ suc i) {m = 256} (omega arith)

high_small : (k n : ℕ) → AreSmall (bytes_high_first k n)
high_small zero n = tt
high_small (suc k) n = (one_small k n, high_small k n)

low_small : (i k n : ℕ) → AreSmall (bytes_low_first i k n)
low_small i zero n = tt
low_small i (suc k) n = (one_small i n, low_small (suc i) k n)

words_small : (ns : List ℕ) → AreSmall (flat_map (le_bytes 4) ns)
unfolding le_bytes
words_small [] = tt
words_small (n ∷ ns) = small_both (bytes_low_first 0 4 n) (flat_map (le_bytes 4) ns) (low_small 0 4 n) (words_small ns)

sid_small : (s : SidValue) → length s.sub_authorities < 256 → IsBytes (sid_bytes s)
unfolding sid_bytes be_bytes
sid_small s few = bytes_of (1 ∷ length s.sub_authorities ∷ bytes_high_first 6 s.authority
    ++ flat_map (le_bytes 4) s.sub_authorities) (
      omega arith,
      (
        few,
        small_both (bytes_high_first 6 s.authority) (flat_map (le_bytes 4) s.sub_authorities)
            (high_small 6 s.authority) (words_small s.sub_authorities),
      ),
    )

-- ---- an identifier that is read from what is written of it

few_read : (s t : SidValue) (rest : List ℕ) → sid_at (sid_bytes s) ≡ Ok (t, rest) → length s.sub_authorities < 16
unfolding sid_at sid_bytes header_at byte_at
few_read s t rest e =
    from_bind (header_at (sid_bytes s)) _ (t, rest) e (λ count e1 e2.
    from_need (nat_lt 0 (length s.sub_authorities) && nat_lt (length s.sub_authorities) 16) _ _ count e1 (λ within e3.
    ltb-true (length s.sub_authorities) 16
    (and_parts (nat_lt 0 (length s.sub_authorities)) (nat_lt (length s.sub_authorities) 16) within).1))

read_is : (s t : SidValue) (rest : List ℕ) → sid_at (sid_bytes s) ≡ Ok (t, rest) → IsSid t
read_is s t rest e = (sid_reader.takes (sid_bytes s) t rest (sid_small s (omega (arith, few_read s t rest e)))
    e).spelled.0

whole_is : (r : Reading SidValue SidFault) (s : SidValue) → whole_sid r ≡ Some s → (rest : List ℕ) × (r ≡ Ok (s, rest))
whole_is (Ok x) s e = let t = cond_some (length x.1 == 0) x.0 s e in (x.1, ap (λ (v : SidValue). Ok (v, x.1)) t.1)
whole_is (Err f) s e = absurd (none-some s e)

either_is : (P : Type 0) (a b : Option SidValue) (s : SidValue) → option_or a b ≡ Some s → (a ≡ Some s → P)
    → (b ≡ Some s → P) → P
either_is P (Some x) b s e k l = k e
either_is P None b s e k l = l e

shown_is : (s : SidValue) (bytes : List ℕ) → bytes ≡ sid_bytes s → sid_of bytes ≡ Some s → IsSid s
unfolding sid_of
shown_is s bytes same e =
    either_is (IsSid s) (whole_sid (sid_at bytes)) (sid_of_text bytes) s e
    (λ whole. let w = whole_is (sid_at bytes) s whole in read_is s s w.0 (ap sid_at (sym same) ∙ w.1))
    (λ text. (spells_of s bytes text).is_sid)

-- what a value of an identifier's syntax shows
given : {E : Type 0} (fault : E) (o : Option Value) (v : Value) → ok_or o fault ≡ Ok v → o ≡ Some v
given fault None v p = absurd cc
given fault (Some u) v p = ap (λ (x : Value). Some x) (from_ok u v p)

from_long : {E P : Type 0} (b : Bool) (long fault : E) (o : Option Value) (v : Value)
    → (if b then Err long else ok_or o fault) ≡ Ok v → (o ≡ Some v → P) → P
from_long true long fault o v p k = absurd cc
from_long false long fault o v p k = k (given fault o v p)

value_is : (v : Value) (s : SidValue) → normal_or_fault syntax.Sid v.shown ≡ Ok v → sid_of v.shown ≡ Some s → IsSid s
unfolding normal_of
value_is v s normal e =
    from_long (nat_lt 1048576 (length v.shown)) _ _ (normal_of syntax.Sid v.shown) v normal (λ some.
    shown_is s v.shown (ap (λ (u : Value). u.shown)
    (sym (same_Some (as_shown (sid_bytes s)) v (ap (option_map (λ t. as_shown (sid_bytes t))) (sym e) ∙ some))))
    e)

-- ---- the root's objectSid

-- what stands at the first place where a test holds
position_at : {A : Type 0} (p : A → Bool) (xs : List A) (k : ℕ) → position p xs ≡ Some k → (x : A)
    × (slice_get xs k ≡ Some x) × (p x ≡ true)
position_at p [] k e = absurd (none-some k e)
position_at p (x ∷ xs) k e = elim (cases_Bool (p x)) [
  | inl here ↦
      (let first : 0 ≡ k = same_Some 0 k (sym (position_here p x xs here) ∙ e) in
      subst (λ (n : ℕ). (y : _) × (slice_get (x ∷ xs) n ≡ Some y) × (p y ≡ true)) first (x, refl, here))
  | inr other ↦
      map_some (λ (n : ℕ). suc n) (position p xs) k (sym (position_next p x xs other) ∙ e) (λ n there same.
      let behind = position_at p xs n there in
      subst (λ (m : ℕ). (y : _) × (slice_get (x ∷ xs) m ≡ Some y) × (p y ≡ true)) same (behind.0, behind.1, behind.2))
]

-- no name is that of objectSid and that of unicodePwd
apart : (name : List ℕ) → same_name name (codes "objectSid") ≡ true → same_name name (codes "unicodePwd") ≡ true → ⊥
unfolding same_name
apart name first second =
    let same : str_to_ascii_lowercase (codes "objectSid") ≡ str_to_ascii_lowercase (codes "unicodePwd") =
    sym ((bytes_eq-Decides (str_to_ascii_lowercase name) (str_to_ascii_lowercase (codes "objectSid"))).0 first)
    ∙ (bytes_eq-Decides (str_to_ascii_lowercase name) (str_to_ascii_lowercase (codes "unicodePwd"))).0 second in
    absurd (omega (arith, ap length same))

abbrev attr_id : ℕ → AttrId
attr_id n = record { 0 = n }

not_password : (schema : List SchemaRecord) (place : ℕ) → place_of (names_of Attribute schema) (codes "objectSid")
    ≡ Some place → is_named schema (codes "unicodePwd") place ≡ false
unfolding attr_named place_of
not_password schema place is = by (place_of (names_of Attribute schema) (codes "unicodePwd")) refl
  where
    by : (o : Option ℕ) → place_of (names_of Attribute schema) (codes "unicodePwd") ≡ o
        → option_map_or (λ p. p == place) (option_map (λ (id : AttrId). id.0) (option_map (λ n. attr_id n) o)) false
        ≡ false
    by None e = refl
    by (Some other) e = elim (cases_Bool (nat_eq other place)) [
      | inl same ↦
          (let here = position_at (λ x. same_name x (codes "objectSid")) (names_of Attribute schema) place is in
          let there = position_at (λ x. same_name x (codes "unicodePwd")) (names_of Attribute schema) place
          (e ∙ ap (λ (n : ℕ). Some n) (eqb-true other place same)) in
          let name : here.0 ≡ there.0 = same_Some here.0 there.0 (sym here.1 ∙ there.1) in
          absurd (apart there.0 (subst (λ (x : List ℕ). same_name x (codes "objectSid") ≡ true) name here.2) there.2))
      | inr differ ↦ differ
    ]

sids_is : (s : Syntax) → is_of_sids s ≡ true → s ≡ syntax.Sid
sids_is syntax.Sid e = refl
sids_is s e = absurd (false≢true e)

counted_is : (schema : List SchemaRecord) (place : ℕ) (o : Option AttrInfo) → slice_get (attrs_of schema) place ≡ o
    → option_map_or (counts rule.ObjectSid) o false ≡ true → syntax_at schema place ≡ syntax.Sid
unfolding counts syntax_at
counted_is schema place None at e = absurd (false≢true e)
counted_is schema place (Some info) at e = ap
    (λ (i : Option AttrInfo). option_map_or (λ info. info.syntax) i syntax.Other) at ∙ sids_is info.syntax e

record IsIdentifying (schema : List SchemaRecord) (place : ℕ) : Type 0 where
  named : place_of (names_of Attribute schema) (codes "objectSid") ≡ Some place
  syntax_is : syntax_at schema place ≡ syntax.Sid

place_is : (schema : List SchemaRecord) (place : ℕ) → object_sid schema ≡ Some place → IsIdentifying schema place
unfolding rule_place attr_of_rule attr_named if_counts
place_is schema place e =
    map_some _ (attr_of_rule schema rule.ObjectSid) place e (λ (id : AttrId) e1 same.
    option_and_then_some (if_counts schema rule.ObjectSid) (attr_named schema (codes "objectSid")) id e1
    (λ (x : AttrId) e2 e3.
    let test = cond_some (option_map_or (counts rule.ObjectSid) (slice_get (attrs_of schema) x.0) false) x id e3 in
    let at : x.0 ≡ place = ap (λ (i : AttrId). i.0) test.1 ∙ same in
    map_some _ (place_of (names_of Attribute schema) (codes "objectSid")) x e2 (λ (n : ℕ) e4 same_x.
    subst (IsIdentifying schema) at (record {
      named = e4 ∙ ap (λ (i : AttrId). Some i.0) same_x;
      syntax_is = counted_is schema x.0 (slice_get (attrs_of schema) x.0) refl test.0;
    }))))

-- ---- a first value

find_is : {A : Type 0} (P : A → Type 0) (test : A → Bool) (xs : List A) (x : A) → AllByRecursion P xs → find test xs
    ≡ Some x → P x × (test x ≡ true)
find_is P test [] x each e = absurd (none-some x e)
find_is P test (y ∷ xs) x each e = elim (cases_Bool (test y)) [
  | inl here ↦ subst (λ z. P z × (test z ≡ true)) (same_Some y x (rw here at e)) (each.0, here)
  | inr other ↦ find_is P test xs x each.1 (rw other at e)
]

first_is : (schema : List SchemaRecord) (attr : ℕ) (values : List Stored) (v : Value)
    → AllByRecursion (IsStored schema attr) values → first_plain values ≡ Some v → IsPlainValue schema attr v
first_is schema attr [] v each e = absurd (none-some v e)
first_is schema attr (plain u ∷ others) v each e = subst (IsPlainValue schema attr) (same_Some u v e) each.0.1
first_is schema attr (link n ∷ others) v each e = absurd (none-some v e)

stored_is : (schema : List SchemaRecord) (o : Object) (place : ℕ) (v : Value) → IsContent schema o
    → first_plain (stored_in o.values place) ≡ Some v → IsPlainValue schema place v
unfolding stored_in
stored_is schema o place v content e = by (find (is_held place) o.values) refl e
  where
    by : (f : Option Held) → find (is_held place) o.values ≡ f
        → first_plain (option_map_or (λ held. held.values) f []) ≡ Some v → IsPlainValue schema place v
    by None at none = absurd (none-some v none)
    by (Some held) at first =
        let is = find_is (IsHeld schema) (is_held place) o.values held content.each at in
        subst (λ (n : ℕ). IsPlainValue schema n v) (eqb-true held.attr place is.1)
        (first_is schema held.attr held.values v is.0.each first)

plain_is : (schema : List SchemaRecord) (place : ℕ) (v : Value) → IsIdentifying schema place
    → IsPlainValue schema place v → normal_or_fault syntax.Sid v.shown ≡ Ok v
plain_is schema place v is value = rw (not_password schema place is.named, is.syntax_is) at value

pub domain_is : (dir : Directory) → IsSound dir → IfSome (domain_sid dir) IsSid
unfolding domain_sid sid_in first_of_attr
domain_is dir sound = by (domain_sid dir) refl
  where
    o : Object
    o = object_at dir.objects root

    by : (known : Option SidValue) → domain_sid dir ≡ known → IfSome known IsSid
    by None e = tt
    by (Some s) e =
        option_and_then_some (λ (v : Value). sid_of v.shown) (first_of_attr (object_sid dir.schema) o) s e (λ v e1 e2.
        option_and_then_some (λ (place : ℕ). first_plain (stored_in o.values place)) (object_sid dir.schema) v e1
        (λ place e3 e4.
        let content = (sound.each root o (of-live dir.objects root sound.frame.root_live)).content in
        value_is v s (plain_is dir.schema place v (place_is dir.schema place e3)
        (stored_is dir.schema o place v content e4)) e2))
