-- The objects that drafts become: each by its place.
use Rattle.std.proofs.Common.{◌≡◌, ℕ, zero, suc, ◌+◌, ◌<◌, true, false, Option, Some, None, inl, inr, Ok, List}
use Rattle.std.proofs.Common.{[], ◌∷◌, ◌++◌, length, refl, sym, ap, subst, ◌∙◌, arith, append_assoc}
use Rattle.std.specs.Prelude.{slice_get, nat_eq}
use Rattle.std.specs.Option.{option_and_then}
use Rattle.std.proofs.lemmas.Bool.{cases_Bool, eqb-true, eq-eqb, ne_eqb}
use Rattle.std.proofs.lemmas.List.{append-nil}
use Rattle.ad_ids.specs.SidValue.{SidValue}
use Rattle.ad_value.specs.Value.{Value}
use Rattle.ad_value.specs.ValueOf.{sid_of}
use Rattle.ad_schema.specs.declared.line.SchemaRecord.{SchemaRecord}
use Rattle.ad_dir_model.specs.Object.{Object}
use Rattle.ad_dir_model.specs.Objects.{RiseAbove, object_of as found_of}
use Rattle.ad_dir_model.specs.Object.{stored_in, first_plain}
use Rattle.ad_dir_model.specs.Attributes.{object_sid}
use Rattle.ad_dir_model.specs.Identity.{first_of_attr, sid_in}
use Rattle.ad_dir_model.proofs.Unlinking.{sid_no_link}
use Rattle.ad_load_objects.specs.Through.{through}
use Rattle.ad_load_objects.specs.Drafts.{Draft, naming_value, first_given, draft_sid}
use Rattle.ad_load.specs.Links.{all_stored, own_sd, object_of, with_object, objects_of, domain_of}
use Rattle.ad_load_objects.proofs.Through.{first_through, none_through}
use Rattle.ad_load_records.proofs.Inverting.{bind_ok}
use Rattle.ad_load_objects.proofs.Places.{some_is, length_more}
use Rattle.ad_load.proofs.Stored.{first_stored}

pub record IsObjectOf (schema : List SchemaRecord) (drafts : List Draft) (n : ℕ) (d : Draft) (o : Object) : Type 0 where
  pub number : o.number ≡ n
  pub parent : o.parent ≡ d.parent
  pub class : o.class ≡ d.class
  pub name : o.name ≡ naming_value d.rdns
  pub values : all_stored schema drafts d.given ≡ Ok o.values

-- the objects of these drafts, whose first has this number
abbrev pub AreObjectsOf : List SchemaRecord → List Draft → ℕ → List Draft → List Object → Type 0
AreObjectsOf schema drafts n [] [] = Unit {0}
AreObjectsOf schema drafts n (d ∷ ds) (o ∷ os) = IsObjectOf schema drafts n d o × AreObjectsOf schema drafts (n + 1)
    ds os
AreObjectsOf schema drafts n _ _ = ⊥

object_is : (schema : List SchemaRecord) (drafts : List Draft) (domain : Option SidValue) (n : ℕ) (d : Draft)
    (o : Object) → object_of schema drafts domain n d ≡ Ok o → IsObjectOf schema drafts n d o
unfolding object_of
object_is schema drafts domain n d o e =
    let a = bind_ok (all_stored schema drafts d.given) _ o e in
    let same : record {
      number = n;
      parent = d.parent;
      class = d.class;
      name = naming_value d.rdns;
      values = a.0;
      sd = own_sd schema domain d.class d.sd;
    } ≡ o = cc in
    subst (IsObjectOf schema drafts n d) same
    (record { number = refl; parent = refl; class = refl; name = refl; values = a.1 })

objects_are : (schema : List SchemaRecord) (drafts : List Draft) (domain : Option SidValue)
    (before end : List Object) (ds : List Draft) → through (with_object schema drafts domain) before ds ≡ Ok end
    → (rest : List Object) × (end ≡ before ++ rest) × AreObjectsOf schema drafts (length before + 1) ds rest
unfolding with_object
objects_are schema drafts domain before end [] e
    = ([], sym (none_through (with_object schema drafts domain) before end e) ∙ sym (append-nil before), tt)
objects_are schema drafts domain before end (d ∷ ds) e =
    let first = first_through (with_object schema drafts domain) before end d ds e in
    let a = bind_ok (object_of schema drafts domain (length before + 1) d) _ first.0 first.1 in
    let o : Object = a.0 in
    let same : before ++ o ∷ [] ≡ first.0 = cc in
    let more = objects_are schema drafts domain (before ++ o ∷ []) end ds
    (subst (λ (os : List Object). through (with_object schema drafts domain) os ds ≡ Ok end)
    (sym same) first.2) in
    let is : IsObjectOf schema drafts (length before + 1) d o = object_is schema drafts domain (length before + 1) d o
    a.1 in
    let behind : AreObjectsOf schema drafts (length before + 1 + 1) ds more.0 = subst
    (λ (n : ℕ). AreObjectsOf schema drafts (n + 1) ds more.0) (length_more before o) more.2 in
    (o ∷ more.0, more.1 ∙ append_assoc before (o ∷ []) more.0, (is, behind))

pub all_objects : (schema : List SchemaRecord) (drafts : List Draft) (objects : List Object)
    → objects_of schema drafts ≡ Ok objects → AreObjectsOf schema drafts 1 drafts objects
unfolding objects_of
all_objects schema drafts objects e =
    let all = objects_are schema drafts (domain_of schema drafts) [] objects drafts e in
    subst (AreObjectsOf schema drafts 1 drafts) (sym all.1) all.2

-- ---- by places

pub as_many : (schema : List SchemaRecord) (drafts : List Draft) (n : ℕ) (ds : List Draft) (os : List Object)
    → AreObjectsOf schema drafts n ds os → length os ≡ length ds
as_many schema drafts n [] [] are = refl
as_many schema drafts n [] (o ∷ os) are = absurd are
as_many schema drafts n (d ∷ ds) [] are = absurd are
as_many schema drafts n (d ∷ ds) (o ∷ os) are = ap (λ (k : ℕ). suc k) (as_many schema drafts (n + 1) ds os are.1)

pub they_rise : (schema : List SchemaRecord) (drafts : List Draft) (k n : ℕ) (ds : List Draft) (os : List Object)
    → k < n → AreObjectsOf schema drafts n ds os → RiseAbove k os
they_rise schema drafts k n [] [] lt are = tt
they_rise schema drafts k n [] (o ∷ os) lt are = absurd are
they_rise schema drafts k n (d ∷ ds) [] lt are = absurd are
they_rise schema drafts k n (d ∷ ds) (o ∷ os) lt are =
    let is : o.number ≡ n = are.0.number in
    let more : o.number < n + 1 = omega arith in
    (omega (arith, lt, is), they_rise schema drafts o.number (n + 1) ds os more are.1)

-- the draft of an object that is found
pub record IsMadeAt (schema : List SchemaRecord) (drafts : List Draft) (first : ℕ) (ds : List Draft) (n : ℕ)
    (o : Object) : Type 0 where
  pub i : ℕ
  pub number : n ≡ first + i
  pub draft : Draft
  pub at : slice_get ds i ≡ Some draft
  pub is : IsObjectOf schema drafts n draft o

pub made_at : (schema : List SchemaRecord) (drafts : List Draft) (first : ℕ) (ds : List Draft) (os : List Object)
    (n : ℕ) (o : Object) → AreObjectsOf schema drafts first ds os → found_of os n ≡ Some o
    → IsMadeAt schema drafts first ds n o
unfolding found_of
made_at schema drafts first [] [] n o are e = absurd cc
made_at schema drafts first [] (x ∷ xs) n o are e = absurd are
made_at schema drafts first (d ∷ ds) [] n o are e = absurd are
made_at schema drafts first (d ∷ ds) (x ∷ xs) n o are e = elim (cases_Bool (nat_eq x.number n)) [
  | inl here ↦
      let same : x ≡ o = some_is x o (rw here at e) in
      let number : n ≡ first = sym (eqb-true x.number n here) ∙ are.0.number in
      record {
        i = 0;
        number = omega (arith, number);
        draft = d;
        at = refl;
        is = subst (λ (k : ℕ). IsObjectOf schema drafts k d o) (sym number)
            (subst (IsObjectOf schema drafts first d) same are.0);
      }
  | inr other ↦
      let more = made_at schema drafts (first + 1) ds xs n o are.1 (rw other at e) in
      let number : n ≡ first + 1 + more.i = more.number in
      record { i = suc more.i; number = omega (arith, number); draft = more.draft; at = more.at; is = more.is }
]

-- the object of a draft
pub found_for : (schema : List SchemaRecord) (drafts : List Draft) (first : ℕ) (ds : List Draft) (os : List Object)
    (i : ℕ) (d : Draft) → AreObjectsOf schema drafts first ds os → slice_get ds i ≡ Some d
    → (o : Object) × (found_of os (first + i) ≡ Some o) × IsObjectOf schema drafts (first + i) d o
unfolding found_of
found_for schema drafts first [] os i d are e = absurd cc
found_for schema drafts first (x ∷ ds) [] i d are e = absurd are
found_for schema drafts first (x ∷ ds) (o ∷ os) zero d are e =
    let number : first ≡ first + 0 = omega arith in
    let here : nat_eq o.number (first + 0) ≡ true = eq-eqb o.number (first + 0) (are.0.number ∙ number) in
    let is : IsObjectOf schema drafts (first + 0) d o = subst (λ (k : ℕ). IsObjectOf schema drafts k d o) number
    (subst (λ (y : Draft). IsObjectOf schema drafts first y o) (some_is x d e) are.0) in
    (o, rw here refl, is)
found_for schema drafts first (x ∷ ds) (o ∷ os) (suc i) d are e =
    let more = found_for schema drafts (first + 1) ds os i d are.1 e in
    let number : first + 1 + i ≡ first + suc i = omega arith in
    let is : o.number ≡ first = are.0.number in
    let other : nat_eq o.number (first + suc i) ≡ false = ne_eqb o.number (first + suc i)
    (λ same. omega (arith, is, same)) in (
      more.0,
      rw other (subst (λ (k : ℕ). found_of os k ≡ Some more.0) number more.1),
      subst
          (λ (k : ℕ). IsObjectOf schema drafts k d more.0) number more.2,
    )

-- ---- identifiers

pub same_identifier : (schema : List SchemaRecord) (drafts : List Draft) (n : ℕ) (d : Draft) (o : Object)
    → IsObjectOf schema drafts n d o → sid_in schema o ≡ draft_sid schema d
unfolding sid_in first_of_attr draft_sid
same_identifier schema drafts n d o is = by (object_sid schema) refl
  where
    by : (place : Option ℕ) → object_sid schema ≡ place
        → option_and_then (λ (value : Value). sid_of value.shown)
        (option_and_then (λ (p : ℕ). first_plain (stored_in o.values p)) place)
        ≡ option_and_then (λ (value : Value). sid_of value.shown) (option_and_then (first_given d.given) place)
    by None e = refl
    by (Some p) e = ap (λ (v : Option Value). option_and_then (λ (value : Value). sid_of value.shown) v)
        (first_stored schema drafts p d.given o.values (sid_no_link schema p e) is.values)
