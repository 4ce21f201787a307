-- The attribute that is put among others.
use Rattle.std.proofs.Common.{◌≡◌, ℕ, suc, ◌<◌, ◌≤◌, Bool, true, false, List, [], ◌∷◌, map, Option, Some, inl, inr}
use Rattle.std.proofs.Common.{refl, sym, ap, ◌∙◌, arith}
use Rattle.std.specs.Prelude.{nat_eq, nat_lt, nat_le, codes, Result, slice_get, insert, remove, bit_and, if◌then◌else◌}
use Rattle.std.specs.List.{position_or_len}
use Rattle.std.specs.Option.{option_map_or}
use Rattle.std.specs.Int.Bits.{and_zero_r}
use Rattle.std.proofs.lemmas.Nat.{and_assoc}
use Rattle.std.proofs.lemmas.Bool.{cases_Bool, leb-true, leb-false, eqb-false, ne_eqb, lt-ltb, le-ltb}
use Rattle.ad_value.specs.Value.{Value}
use Rattle.ad_value.specs.declared.fault.ValueFault.{ValueFault}
use Rattle.ad_value.specs.declared.syntax.Syntax.TheVariants as syntax
use Rattle.ad_value.specs.ValueOf.{normal_or_fault}
use Rattle.ad_schema.specs.declared.line.SchemaRecord.{SchemaRecord}
use Rattle.ad_schema.specs.declared.info.AttrId.{AttrId}
use Rattle.ad_schema.specs.declared.info.AttrInfo.{AttrInfo}
use Rattle.ad_schema.specs.Attributes.{attrs_of}
use Rattle.ad_dir_objects.specs.declared.object.Stored.{Stored as StoredIn}
use Rattle.ad_dir_objects.specs.Seen.{stored_seen, held_seen}
use Rattle.ad_dir_model.specs.Object.{Held, Stored}
use Rattle.ad_dir_model.specs.Attributes.{syntax_at}
use Rattle.ad_dir_model.specs.Changes.{with_values}
use Rattle.ad_dir_model.specs.Protection.{mark_of}

abbrev pub HeldIn : Type 0
HeldIn = AttrId × List StoredIn

-- the first place of an attribute that isn't before this one, and whether it is this one
abbrev pub place_of : ℕ → List HeldIn → ℕ
place_of attr hs = position_or_len (λ held. nat_le attr held.0.0) hs

abbrev pub stands_at : ℕ → List HeldIn → ℕ → Bool
stands_at attr hs place = option_map_or (λ held. nat_eq held.0.0 attr) (slice_get hs place) false

abbrev pub without_at : Bool → List HeldIn → ℕ → List HeldIn
without_at gone hs place = if gone then remove hs place else hs

-- the attribute put at the place
abbrev pub put_at : AttrId → List StoredIn → List HeldIn → ℕ → List HeldIn
put_at attr of_attr hs place = insert (without_at (stands_at attr.0 hs place) hs place) place (attr, of_attr)

without_behind : (gone : Bool) (h : HeldIn) (hs : List HeldIn) (place : ℕ) → without_at gone (h ∷ hs) (suc place) ≡ h
    ∷ without_at gone hs place
without_behind true h hs place = refl
without_behind false h hs place = refl

put_behind : (attr : AttrId) (of_attr : List StoredIn) (h : HeldIn) (hs : List HeldIn) (place : ℕ)
    → put_at attr of_attr (h ∷ hs) (suc place) ≡ h ∷ put_at attr of_attr hs place
put_behind attr of_attr h hs place =
    ap (λ (ws : List HeldIn). insert ws (suc place) (attr, of_attr))
    (without_behind (stands_at attr.0 hs place) h hs place)

place_behind : (attr : ℕ) (h : HeldIn) (hs : List HeldIn) → nat_le attr h.0.0 ≡ false → place_of attr (h ∷ hs)
    ≡ suc (place_of attr hs)
place_behind attr h hs behind = rw behind (omega arith)

place_here : (attr : ℕ) (h : HeldIn) (hs : List HeldIn) → nat_le attr h.0.0 ≡ true → place_of attr (h ∷ hs) ≡ 0
place_here attr h hs here = rw here refl

put_here : (attr : AttrId) (of_attr : List StoredIn) (h : HeldIn) (hs : List HeldIn) → nat_le attr.0 h.0.0 ≡ true
    → map held_seen (put_at attr of_attr (h ∷ hs) 0) ≡ with_values attr.0 (map stored_seen of_attr)
    (map held_seen (h ∷ hs))
unfolding with_values
put_here attr of_attr h hs here =
    elim (cases_Bool (nat_eq h.0.0 attr.0)) [
      | inl same ↦ rw same refl
      | inr other ↦
          let le : attr.0 ≤ h.0.0 = leb-true attr.0 h.0.0 here in
          let apart : h.0.0 ≡ attr.0 → ⊥ = eqb-false h.0.0 attr.0 other in
          let below : nat_lt attr.0 h.0.0 ≡ true = lt-ltb attr.0 h.0.0 (omega (arith, le, apart)) in
          rw (other, below) refl
    ]

with_behind : (attr : AttrId) (vs : List Stored) (h : Held) (hs : List Held) → h.attr < attr.0
    → with_values attr.0 vs (h ∷ hs) ≡ h ∷ with_values attr.0 vs hs
unfolding with_values
with_behind attr vs h hs less =
    let other : nat_eq h.attr attr.0 ≡ false
    = ne_eqb h.attr attr.0 (λ (e : h.attr ≡ attr.0). absurd (omega (arith, less, e))) in
    let above : nat_lt attr.0 h.attr ≡ false = le-ltb attr.0 h.attr (omega (arith, less)) in
    rw (other, above) refl

pub put_among : (attr : AttrId) (of_attr : List StoredIn) (hs : List HeldIn)
    → map held_seen (put_at attr of_attr hs (place_of attr.0 hs)) ≡ with_values attr.0 (map stored_seen of_attr)
    (map held_seen hs)
unfolding with_values
put_among attr of_attr [] = refl
put_among attr of_attr (h ∷ hs) =
    elim (cases_Bool (nat_le attr.0 h.0.0)) [
      | inl here ↦
          ap (λ (place : ℕ). map held_seen (put_at attr of_attr (h ∷ hs) place)) (place_here attr.0 h hs here)
          ∙ put_here attr of_attr h hs here
      | inr behind ↦
          ap (λ (place : ℕ). map held_seen (put_at attr of_attr (h ∷ hs) place)) (place_behind attr.0 h hs behind)
          ∙ ap (map held_seen) (put_behind attr of_attr h hs (place_of attr.0 hs))
          ∙ ap (λ (rest : List Held). held_seen h ∷ rest) (put_among attr of_attr hs)
          ∙ sym (with_behind attr (map stored_seen of_attr) (held_seen h) (map held_seen hs)
          (leb-false attr.0 h.0.0 behind))
    ]

-- the same from what each step gives
pub with_put : (attr : AttrId) (of_attr : List StoredIn) (values middle new first second : List HeldIn) (place : ℕ)
    (stands : Bool) → first ≡ values → second ≡ values
    → place ≡ place_of attr.0 first → stands ≡ stands_at attr.0 second place → middle ≡ without_at stands values place
    → new ≡ insert middle place (attr, of_attr)
    → map held_seen new ≡ with_values attr.0 (map stored_seen of_attr) (map held_seen values)
with_put attr of_attr values middle new first second place stands one two at standing taken put =
    ap (map held_seen) (put ∙ ap (λ (hs : List HeldIn). insert hs place (attr, of_attr))
    (taken ∙ ap (λ (b : Bool). without_at b values place)
    (standing ∙ ap (λ (hs : List HeldIn). stands_at attr.0 hs place) two))
    ∙ ap (put_at attr of_attr values) (at ∙ ap (place_of attr.0) one))
    ∙ put_among attr of_attr values

-- what the syntax of an attribute reads is what that of its place reads
pub mark_read : (schema : List SchemaRecord) (attr : ℕ) (info : AttrInfo) (read : Result Value ValueFault)
    → slice_get (attrs_of schema) attr ≡ Some info
    → normal_or_fault info.syntax (codes "1") ≡ read → mark_of attr read
    ≡ mark_of attr (normal_or_fault (syntax_at schema attr) (codes "1"))
unfolding syntax_at
mark_read schema attr info read at is =
    sym (ap (λ (found : Option AttrInfo). mark_of attr
    (normal_or_fault (option_map_or (λ (i : AttrInfo). i.syntax) found syntax.Other) (codes "1"))) at
    ∙ ap (mark_of attr) is)

-- the flag that no entry has stays clear
pub clear_of_20 : (flags : ℕ) → bit_and (bit_and flags 207) 32 ≡ 0
clear_of_20 flags = and_assoc 32 flags 207 ∙ and_zero_r flags
