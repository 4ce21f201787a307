-- The values of an object, as they are stored one after the other.
use Rattle.std.proofs.Common.{◌≡◌, ℕ, suc, ◌+◌, ◌<◌, ◌≤◌, nat_lt, Bool, true, false, Option, Some, None, inl}
use Rattle.std.proofs.Common.{inr, Ok, List, [], ◌∷◌, ◌++◌, length, refl, sym, ap, subst, ◌∙◌, arith}
use Rattle.std.specs.Prelude.{slice_get, find, position, ◌==◌, if◌then◌else◌, ok_or}
use Rattle.std.specs.Option.{option_map, option_and_then}
use Rattle.std.specs.List.{AllByRecursion}
use Rattle.std.proofs.lemmas.Bool.{cases_Bool, eqb-true, eqb-false, eq-eqb, ne_eqb, ltb-true, ltb-false}
use Rattle.ad_bytes.specs.Reading.{◌>>=◌}
use Rattle.ad_dn.specs.declared.rdn.Rdn.{Rdn}
use Rattle.ad_dn.specs.declared.rdn.Dn.{Dn}
use Rattle.ad_dn.specs.Reading.{dn_of}
use Rattle.ad_value.specs.Value.{Value}
use Rattle.ad_schema.specs.declared.line.SchemaRecord.{SchemaRecord}
use Rattle.ad_schema.specs.Attributes.{attrs_of}
use Rattle.ad_schema.specs.Meaning.{attr_is_link}
use Rattle.ad_dir_model.specs.Object.{Stored, plain, link, Held, stored_in, first_plain, plain_value}
use Rattle.ad_dir_model.specs.Soundness.{IsPlainValue, AttrsRiseFrom}
use Rattle.ad_load_records.specs.declared.fault.LoadCause.TheVariants as cause
use Rattle.ad_load_records.specs.Faults.{at}
use Rattle.ad_load_objects.specs.Through.{through}
use Rattle.ad_load_objects.specs.Drafts.{Given, Draft, has_name, number_named, is_given, first_given}
use Rattle.ad_load.specs.Links.{target_of, stored_of, with_stored, with_given, all_stored}
use Rattle.ad_load_objects.proofs.Through.{keeps_through, first_through, none_through}
use Rattle.ad_load_records.proofs.Inverting.{bind_ok, ok_or_ok, load_is}
use Rattle.ad_load_objects.proofs.Places.{within, found_at, all_more}
use Rattle.ad_load_objects.proofs.Good.{IsGoodGiven}

-- ---- where attributes rise

rise_less : (m n : ℕ) (held : List Held) → m ≤ n → AttrsRiseFrom n held → AttrsRiseFrom m held
rise_less m n [] le rise = tt
rise_less m n (h ∷ hs) le rise = let above : n ≤ h.attr = rise.0 in (omega arith, rise.1)

pub rise_with : (m attr : ℕ) (v : Stored) (held : List Held) → m ≤ attr → AttrsRiseFrom m held
    → AttrsRiseFrom m (with_stored attr v held)
unfolding with_stored
rise_with m attr v [] le rise = (le, tt)
rise_with m attr v (h ∷ hs) le rise = elim (cases_Bool (h.attr == attr)) [
  | inl same ↦
      let e : h.attr ≡ attr = eqb-true h.attr attr same in
      rw same (le, subst (λ (n : ℕ). AttrsRiseFrom (suc n) hs) e rise.1)
  | inr differ ↦ elim (cases_Bool (nat_lt attr h.attr)) [
    | inl below ↦
        let lt : attr < h.attr = ltb-true attr h.attr below in
        rw (differ, below) (le, (lt, rise.1))
    | inr above ↦
        let ge : h.attr ≤ attr = ltb-false attr h.attr above in
        let other : h.attr ≡ attr → ⊥ = eqb-false h.attr attr differ in
        let lt : suc h.attr ≤ attr = omega (arith, other) in
        rw (differ, above) (rise.0, rise_with (suc h.attr) attr v hs lt rise.1)
  ]
]

none_held : (n place : ℕ) (held : List Held) → place < n → AttrsRiseFrom n held → stored_in held place ≡ []
unfolding stored_in
none_held n place [] lt rise = refl
none_held n place (h ∷ hs) lt rise =
    let above : n ≤ h.attr = rise.0 in
    let differ : (h.attr == place) ≡ false = ne_eqb h.attr place (λ e. omega (arith, lt, above, e)) in
    let more : place < suc h.attr = omega arith in
    rw differ (none_held (suc h.attr) place hs more rise.1)

stored_behind : (m attr : ℕ) (v : Stored) (held : List Held) → AttrsRiseFrom m held
    → stored_in (with_stored attr v held) attr ≡ stored_in held attr ++ v ∷ []
unfolding with_stored stored_in
stored_behind m attr v [] rise = let same : (attr == attr) ≡ true = eq-eqb attr attr refl in rw same refl
stored_behind m attr v (h ∷ hs) rise = elim (cases_Bool (h.attr == attr)) [
  | inl same ↦ let own : (attr == attr) ≡ true = eq-eqb attr attr refl in rw (same, own) refl
  | inr differ ↦ elim (cases_Bool (nat_lt attr h.attr)) [
    | inl below ↦
        let lt : attr < suc h.attr = let l : attr < h.attr = ltb-true attr h.attr below in omega arith in
        let own : (attr == attr) ≡ true = eq-eqb attr attr refl in
        let none = none_held (suc h.attr) attr hs lt rise.1 in
        rw (differ, below, own, none) refl
    | inr above ↦ rw (differ, above, differ) (stored_behind (suc h.attr) attr v hs rise.1)
  ]
]

stored_besides : (attr place : ℕ) (v : Stored) (held : List Held) → (attr ≡ place → ⊥)
    → stored_in (with_stored attr v held) place ≡ stored_in held place
unfolding with_stored stored_in
stored_besides attr place v [] other = let differ : (attr == place) ≡ false = ne_eqb attr place other in rw differ refl
stored_besides attr place v (h ∷ hs) other = elim (cases_Bool (h.attr == attr)) [
  | inl same ↦
      let is : h.attr ≡ attr = eqb-true h.attr attr same in
      let differ : h.attr ≡ place → ⊥ = λ (e : h.attr ≡ place). other (sym is ∙ e) in
      rw (same, ne_eqb attr place other, ne_eqb h.attr place differ) refl
  | inr differ ↦ elim (cases_Bool (nat_lt attr h.attr)) [
    | inl below ↦ rw (differ, below, ne_eqb attr place other) refl
    | inr above ↦ elim (cases_Bool (h.attr == place)) [
      | inl here ↦ rw (differ, above, here) refl
      | inr further ↦ rw (differ, above, further) (stored_besides attr place v hs other)
    ]
  ]
]

-- ---- each of them is good

-- A value that is no link, of its syntax; or a link to one of so many objects.
abbrev pub IsGoodStored : List SchemaRecord → ℕ → ℕ → Stored → Type 0
IsGoodStored schema count attr (plain value) = (attr_is_link schema attr ≡ false) × IsPlainValue schema attr value
IsGoodStored schema count attr (link number) = (attr_is_link schema attr ≡ true) × (1 ≤ number) × (number ≤ count)

pub record IsGoodHeld (schema : List SchemaRecord) (count : ℕ) (h : Held) : Type 0 where
  pub attr : h.attr < length (attrs_of schema)
  pub some : 0 < length h.values
  pub each : AllByRecursion (IsGoodStored schema count h.attr) h.values

some_more : (values : List Stored) (v : Stored) → 0 < length (values ++ v ∷ [])
some_more [] v = omega arith
some_more (x ∷ xs) v = omega arith

good_with : (schema : List SchemaRecord) (count attr : ℕ) (v : Stored) (held : List Held)
    → attr < length (attrs_of schema) → IsGoodStored schema count attr v
    → AllByRecursion (IsGoodHeld schema count) held
    → AllByRecursion (IsGoodHeld schema count) (with_stored attr v held)
unfolding with_stored
good_with schema count attr v [] lt one all = (record { attr = lt; some = omega arith; each = (one, tt) }, tt)
good_with schema count attr v (h ∷ hs) lt one all = elim (cases_Bool (h.attr == attr)) [
  | inl same ↦
      let is : h.attr ≡ attr = eqb-true h.attr attr same in
      let each = subst (λ (n : ℕ). AllByRecursion (IsGoodStored schema count n) h.values) is all.0.each in
      rw same (
        record {
          attr = lt;
          some = some_more h.values v;
          each = all_more (IsGoodStored schema count attr)
              h.values v each one;
        },
        all.1,
      )
  | inr differ ↦ elim (cases_Bool (nat_lt attr h.attr)) [
    | inl below ↦ rw (differ, below) (record { attr = lt; some = omega arith; each = (one, tt) }, all)
    | inr above ↦ rw (differ, above) (all.0, good_with schema count attr v hs lt one all.1)
  ]
]

-- ---- the object of a name

pub number_within : (drafts : List Draft) (rdns : List Rdn) (number : ℕ) → number_named drafts rdns ≡ Some number
    → (i : ℕ) × (number ≡ i + 1) × (d : Draft) × (slice_get drafts i ≡ Some d) × (has_name rdns d ≡ true)
unfolding number_named
number_within drafts rdns number e = by (position (has_name rdns) drafts) refl e where
  by : (place : Option ℕ) → position (has_name rdns) drafts ≡ place → option_map (λ (p : ℕ). p + 1) place ≡ Some number
      → (i : ℕ) × (number ≡ i + 1) × (d : Draft) × (slice_get drafts i ≡ Some d) × (has_name rdns d ≡ true)
  by None is q = absurd cc
  by (Some i) is q =
      let at = found_at (has_name rdns) drafts i is in
      let same : number ≡ i + 1 = cc in
      (i, same, at.0, at.1, at.2)

target_within : (drafts : List Draft) (text : List ℕ) (number : ℕ) → target_of drafts text ≡ Some number
    → (1 ≤ number) × (number ≤ length drafts)
target_within drafts text number e = by (dn_of text) e where
  by : (dn : Option Dn) → option_and_then (λ (dn : Dn). number_named drafts dn.rdns) dn ≡ Some number → (1 ≤ number)
      × (number ≤ length drafts)
  by None q = absurd cc
  by (Some dn) q =
      let at = number_within drafts dn.rdns number q in
      let lt : at.0 < length drafts = within drafts at.0 at.2 at.3 in
      let is : number ≡ at.0 + 1 = at.1 in
      (omega arith, omega arith)

-- ---- all values

stored_good : (schema : List SchemaRecord) (drafts : List Draft) (g : Given) (v : Stored) → IsGoodGiven schema g
    → stored_of schema drafts g ≡ Ok v → IsGoodStored schema (length drafts) g.attr v
unfolding stored_of
stored_good schema drafts g v good e = by (attr_is_link schema g.attr) refl e where
  by : (test : Bool) → attr_is_link schema g.attr ≡ test
      → (if test then (ok_or (target_of drafts g.value.shown) (at g.line (cause.Link g.spelled)) >>= λ number. Ok
      (link number)) else Ok (plain g.value)) ≡ Ok v → IsGoodStored schema (length drafts) g.attr v
  by true is q =
      let a = bind_ok (ok_or (target_of drafts g.value.shown) (at g.line (cause.Link g.spelled))) _ v q in
      let same : link a.0 ≡ v = cc in
      let range = target_within drafts g.value.shown a.0
      (ok_or_ok (target_of drafts g.value.shown) (at g.line (cause.Link g.spelled)) a.0 a.1) in
      subst (IsGoodStored schema (length drafts) g.attr) same (is, range.0, range.1)
  by false is q =
      let same : plain g.value ≡ v = cc in
      subst (IsGoodStored schema (length drafts) g.attr) same (is, good.plain)

pub record IsGoodValues (schema : List SchemaRecord) (count : ℕ) (held : List Held) : Type 0 where
  pub rise : AttrsRiseFrom 0 held
  pub each : AllByRecursion (IsGoodHeld schema count) held

given_good : (schema : List SchemaRecord) (drafts : List Draft) (held next : List Held) (g : Given)
    → IsGoodValues schema (length drafts) held → IsGoodGiven schema g → with_given schema drafts held g ≡ Ok next
    → IsGoodValues schema (length drafts) next
unfolding with_given
given_good schema drafts held next g good one e =
    let a = bind_ok (stored_of schema drafts g) _ next e in
    let v : Stored = a.0 in
    let same : with_stored g.attr v held ≡ next = cc in
    subst (IsGoodValues schema (length drafts)) same (record {
      rise = rise_with 0 g.attr v held (omega arith) good.rise;
      each = good_with schema (length drafts) g.attr v held one.attr (stored_good schema drafts g v one a.1) good.each;
    })

pub values_good : (schema : List SchemaRecord) (drafts : List Draft) (given : List Given) (values : List Held)
    → AllByRecursion (IsGoodGiven schema) given → all_stored schema drafts given ≡ Ok values
    → IsGoodValues schema (length drafts) values
unfolding all_stored
values_good schema drafts given values are e =
    keeps_through (with_given schema drafts) (IsGoodValues schema (length drafts)) (IsGoodGiven schema)
    (given_good schema drafts) [] values given (record { rise = tt; each = tt }) are e

-- ---- the first value of an attribute

-- the first of these, where it is no link; else this one
abbrev first_or : List Stored → Option Value → Option Value
first_or [] value = value
first_or (stored ∷ others) value = plain_value stored

first_behind : (values : List Stored) (w : Value) (other : Option Value) → first_or (values ++ plain w ∷ []) other
    ≡ first_or values (Some w)
first_behind [] w other = refl
first_behind (x ∷ xs) w other = refl

first_is : (values : List Stored) → first_or values None ≡ first_plain values
first_is [] = refl
first_is (x ∷ xs) = refl

plain_of : (schema : List SchemaRecord) (drafts : List Draft) (place : ℕ) (g : Given) (v : Stored)
    → attr_is_link schema place ≡ false → g.attr ≡ place → stored_of schema drafts g ≡ Ok v → plain g.value ≡ v
unfolding stored_of
plain_of schema drafts place g v plain_one at_place is =
    let not_link : attr_is_link schema g.attr ≡ false = ap (attr_is_link schema) at_place ∙ plain_one in
    load_is (plain g.value) v (rw not_link at is)

first_walk : (schema : List SchemaRecord) (drafts : List Draft) (place : ℕ) (given : List Given)
    (held values : List Held) → attr_is_link schema place ≡ false → AttrsRiseFrom 0 held
    → through (with_given schema drafts) held given ≡ Ok values
    → first_or (stored_in values place) None ≡ first_or (stored_in held place) (first_given given place)
unfolding with_given first_given
first_walk schema drafts place [] held values plain_one rise e = ap
    (λ (hs : List Held). first_or (stored_in hs place) None)
    (sym (none_through (with_given schema drafts) held values e))
first_walk schema drafts place (g ∷ given) held values plain_one rise e =
    let first = first_through (with_given schema drafts) held values g given e in
    let a = bind_ok (stored_of schema drafts g) _ first.0 first.1 in
    let v : Stored = a.0 in
    let same : with_stored g.attr v held ≡ first.0 = cc in
    let risen : AttrsRiseFrom 0 first.0 = subst (AttrsRiseFrom 0) same (rise_with 0 g.attr v held (omega arith) rise) in
    first_walk schema drafts place given first.0 values plain_one risen first.2
    ∙ ap (λ (hs : List Held). first_or (stored_in hs place) (first_given given place)) (sym same)
    ∙ by v a.1
  where
    by : (v : Stored) → stored_of schema drafts g ≡ Ok v
        → first_or (stored_in (with_stored g.attr v held) place) (first_given given place)
        ≡ first_or (stored_in held place) (first_given (g ∷ given) place)
    by v is = elim (cases_Bool (g.attr == place)) [
      | inl here ↦
          let at_place : g.attr ≡ place = eqb-true g.attr place here in
          ap (λ (n : ℕ). first_or (stored_in (with_stored n v held) place) (first_given given place)) at_place
          ∙ ap (λ (vs : List Stored). first_or vs (first_given given place)) (stored_behind 0 place v held rise)
          ∙ ap (λ (w : Stored). first_or (stored_in held place ++ w ∷ []) (first_given given place))
          (sym (plain_of schema drafts place g v plain_one at_place is))
          ∙ first_behind (stored_in held place) g.value (first_given given place)
          ∙ ap (λ (b : Bool). first_or (stored_in held place)
          (option_map (λ (g : Given). g.value) (if b then Some g else find (is_given place) given))) (sym here)
      | inr away ↦
          let differ : g.attr ≡ place → ⊥ = eqb-false g.attr place away in
          ap (λ (vs : List Stored). first_or vs (first_given given place)) (stored_besides g.attr place v held differ)
          ∙ ap (λ (b : Bool). first_or (stored_in held place)
          (option_map (λ (g : Given). g.value) (if b then Some g else find (is_given place) given))) (sym away)
    ]

pub first_stored : (schema : List SchemaRecord) (drafts : List Draft) (place : ℕ) (given : List Given)
    (values : List Held) → attr_is_link schema place ≡ false → all_stored schema drafts given ≡ Ok values
    → first_plain (stored_in values place) ≡ first_given given place
unfolding all_stored stored_in
first_stored schema drafts place given values plain_one e = sym (first_is (stored_in values place))
    ∙ first_walk schema drafts place given [] values plain_one tt e
