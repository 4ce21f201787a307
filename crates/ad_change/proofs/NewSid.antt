-- The identifier that a new object gets.
use Rattle.std.proofs.Common.{◌≡◌, ℕ, ◌+◌, ◌*◌, ◌<◌, ◌≤◌, Bool, true, false, List, [], ◌∷◌, ◌++◌, length, Option}
use Rattle.std.proofs.Common.{Some, None, Ok, inl, inr, refl, sym, subst, ap, arith, ◌∙◌}
use Rattle.std.specs.Prelude.{nat_eq, nat_lt, ◌^◌, codes, slice_get, option_map}
use Rattle.std.specs.Option.{option_map_or, option_and_then, option_or}
use Rattle.std.proofs.lemmas.Bool.{cases_Bool, ne_eqb, ltb-true, false≢true}
use Rattle.std.proofs.lemmas.Option.{none-some, same_Some}
use Rattle.std.proofs.lemmas.List.{append-nil, length-append}
use Rattle.ad_bytes.specs.Reading.{IsReaderOf}
use Rattle.ad_ids.specs.SidValue.{SidValue}
use Rattle.ad_ids.specs.Sid.{IsSid, SpellsSid, sid_bytes}
use Rattle.ad_ids.specs.SidReading.{sid_at}
use Rattle.ad_ids.specs.SidFront.{sid_of_text}
use Rattle.ad_ids.specs.SidChild.{child_of}
use Rattle.ad_value.specs.declared.syntax.Syntax.{Syntax}
use Rattle.ad_value.specs.declared.syntax.Syntax.TheVariants as syntax
use Rattle.ad_value.specs.Value.{as_shown}
use Rattle.ad_value.specs.ValueOf.{whole_sid, sid_of, normal_of, normal_or_fault}
use Rattle.ad_schema.specs.declared.line.SchemaRecord.{SchemaRecord}
use Rattle.ad_schema.specs.declared.info.AttrId.{AttrId}
use Rattle.ad_schema.specs.declared.info.AttrInfo.{AttrInfo}
use Rattle.ad_schema.specs.declared.meaning.RuleAttr.TheVariants as rule
use Rattle.ad_schema.specs.Attributes.{attrs_of, attr_named}
use Rattle.ad_schema.specs.Meaning.{is_of_sids, counts, if_counts, rule_name, attr_of_rule}
use Rattle.ad_dir_model.specs.Limits.{max_counter}
use Rattle.ad_dir_model.specs.Object.{plain}
use Rattle.ad_dir_model.specs.Attributes.{attr_place, is_named, syntax_at, rule_place, object_sid}
use Rattle.ad_dir_model.specs.Identity.{domain_sid, domain_child}
use Rattle.ad_dir_model.specs.Directory.{Directory}
use Rattle.ad_dir_model.specs.Soundness.{IsValueBy}
use Rattle.ad_dir_model.proofs.Unlinking.{sid_no_link}
use Rattle.ad_dir_model.proofs.AdminCount.{places_apart, rule_is_named}
use Rattle.ad_change.proofs.Contents.{IsGood, all_of_both}

-- what the crates below promise of identifiers
pub record SidsRead : Type 0 where
  pub read : IsReaderOf SpellsSid sid_at
  pub lengths : (sid : SidValue) → length (sid_bytes sid) ≡ 8 + 4 * length sid.sub_authorities

-- ---- the bytes of an identifier

-- they are read as it
pub bytes_again : SidsRead → (s : SidValue) → IsSid s → sid_of (sid_bytes s) ≡ Some s
unfolding sid_of
bytes_again w s is = ap (λ (o : Option SidValue). option_or o (sid_of_text (sid_bytes s))) whole
  where
    whole : whole_sid (sid_at (sid_bytes s)) ≡ Some s
    whole = ap whole_sid (ap sid_at (sym (append-nil (sid_bytes s))) ∙ w.read.again s (sid_bytes s) [] (is, refl))

bytes_short : SidsRead → (s : SidValue) → IsSid s → nat_lt 1048576 (length (sid_bytes s)) ≡ false
bytes_short w s is =
    elim (cases_Bool (nat_lt 1048576 (length (sid_bytes s)))) [
      | inl long ↦
          let more : 1048576 < length (sid_bytes s) = ltb-true 1048576 (length (sid_bytes s)) long in
          let len : length (sid_bytes s) ≡ 8 + 4 * length s.sub_authorities = w.lengths s in
          let few : length s.sub_authorities ≤ 15 = is.at_most_15 in
          absurd (omega arith)
      | inr short ↦ short
    ]

normal_again : SidsRead → (s : SidValue) → IsSid s → normal_or_fault syntax.Sid (sid_bytes s)
    ≡ Ok (as_shown (sid_bytes s))
unfolding normal_of
normal_again w s is = rw (bytes_short w s is, bytes_again w s is) refl

-- ---- the attribute

sids_alone : (s : Syntax) → is_of_sids s ≡ true → s ≡ syntax.Sid
sids_alone syntax.Name is = absurd (false≢true is)
sids_alone syntax.Ascii is = absurd (false≢true is)
sids_alone syntax.Boolean is = absurd (false≢true is)
sids_alone syntax.Integer is = absurd (false≢true is)
sids_alone syntax.Large is = absurd (false≢true is)
sids_alone syntax.Octets is = absurd (false≢true is)
sids_alone syntax.Unicode is = absurd (false≢true is)
sids_alone syntax.Sid is = refl
sids_alone syntax.Other is = absurd (false≢true is)

syntax_by : (found : Option AttrInfo) → option_map_or (counts rule.ObjectSid) found false ≡ true
    → option_map_or (λ (info : AttrInfo). info.syntax) found syntax.Other ≡ syntax.Sid
unfolding counts
syntax_by None is = absurd (false≢true is)
syntax_by (Some info) is = sids_alone info.syntax is

syntax_named : (schema : List SchemaRecord) (named : Option AttrId) (attr : ℕ)
    → option_map (λ (id : AttrId). id.0) (option_and_then (if_counts schema rule.ObjectSid) named) ≡ Some attr
    → syntax_at schema attr ≡ syntax.Sid
unfolding if_counts syntax_at
syntax_named schema None attr is = absurd (none-some attr is)
syntax_named schema (Some id) attr is =
    elim (cases_Bool (option_map_or (counts rule.ObjectSid) (slice_get (attrs_of schema) id.0) false)) [
      | inl does_count ↦
          let place : id.0 ≡ attr = same_Some id.0 attr (rw does_count at is) in
          rw (← place) (syntax_by (slice_get (attrs_of schema) id.0) does_count)
      | inr not_counts ↦ absurd (none-some attr (rw not_counts at is))
    ]

syntax_of_sid : (schema : List SchemaRecord) (attr : ℕ) → object_sid schema ≡ Some attr → syntax_at schema attr
    ≡ syntax.Sid
unfolding rule_place attr_of_rule
syntax_of_sid schema attr is = syntax_named schema (attr_named schema (rule_name rule.ObjectSid)) attr is

named_by : (schema : List SchemaRecord) (attr : ℕ) (named : Option ℕ) → object_sid schema ≡ Some attr
    → attr_place schema (codes "unicodePwd") ≡ named → option_map_or (λ (place : ℕ). nat_eq place attr) named false
    ≡ false
named_by schema attr None is at = refl
named_by schema attr (Some place) is at =
    ne_eqb place attr (λ (e : place ≡ attr). places_apart schema (codes "objectSid") (codes "unicodePwd") attr place
    (rule_is_named schema rule.ObjectSid attr is) at refl (sym e))

-- a value of it
pub sid_good : SidsRead → (dir : Directory) (attr : ℕ) (s : SidValue) → object_sid dir.schema ≡ Some attr → IsSid s
    → IsGood dir attr (plain (as_shown (sid_bytes s)))
sid_good w dir attr s is sid = (
  sid_no_link dir.schema attr is,
  by_name
      (is_named dir.schema (codes "unicodePwd") attr) (named_by dir.schema attr
      (attr_place dir.schema (codes "unicodePwd")) is refl),
)
  where
    by_name : (named : Bool) → named ≡ false → IsValueBy named (syntax_at dir.schema attr) (as_shown (sid_bytes s))
    by_name true not_named = absurd (false≢true (sym not_named))
    by_name false not_named = subst (λ (x : Syntax). normal_or_fault x (sid_bytes s) ≡ Ok (as_shown (sid_bytes s)))
        (sym (syntax_of_sid dir.schema attr is)) (normal_again w s sid)

-- ---- one below another

child_is : (s t : SidValue) (r : ℕ) → IsSid s → r < 2 ^ 32 → child_of s r ≡ Some t → IsSid t
child_is s t r is fits child =
    elim (cases_Bool (nat_lt (length s.sub_authorities) 15)) [
      | inl few ↦
          let less : length s.sub_authorities < 15 = ltb-true (length s.sub_authorities) 15 few in
          let at_least : 1 ≤ length s.sub_authorities = is.at_least_one in
          let long : length (s.sub_authorities ++ r ∷ []) ≡ length s.sub_authorities + 1
          = length-append s.sub_authorities (r ∷ []) in
          subst IsSid (same_Some (record { authority = s.authority; sub_authorities = s.sub_authorities ++ r ∷ [] }) t
          (rw few at child)) (record {
            authority = is.authority;
            at_least_one = rw long (omega arith);
            at_most_15 = rw long (omega arith);
            sub_authorities = all_of_both (λ (n : ℕ). n < 2 ^ 32) s.sub_authorities (r ∷ []) is.sub_authorities
                (fits, tt);
          })
      | inr many ↦ absurd (none-some t (rw many at child))
    ]

-- the domain's identifier has the form of one
abbrev pub HasDomain : Directory → Type 0
HasDomain dir = (s : SidValue) → domain_sid dir ≡ Some s → IsSid s

counter_fits : (r : ℕ) → r < max_counter → r < 2 ^ 32
unfolding max_counter
counter_fits r less = omega arith

pub domain_child_is : (dir : Directory) (t : SidValue) (r : ℕ) → HasDomain dir → r < max_counter → domain_child dir r
    ≡ Some t → IsSid t
unfolding domain_child
domain_child_is dir t r has less child = by_domain (domain_sid dir) refl child
  where
    by_domain : (domain : Option SidValue) → domain_sid dir ≡ domain
        → option_and_then (λ (s : SidValue). child_of s r) domain ≡ Some t → IsSid t
    by_domain None at is = absurd (none-some t is)
    by_domain (Some s) at is = child_is s t r (has s at) (counter_fits r less) is
