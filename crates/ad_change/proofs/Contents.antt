-- What is stored of values that were sent, and that it may be held.
use Rattle.std.proofs.Common.{◌≡◌, ℕ, ◌<◌, Bool, true, false, List, [], ◌∷◌, ◌++◌, length, Option, Some, None}
use Rattle.std.proofs.Common.{Result, Ok, Err, inl, inr, refl, sym, subst, ap, arith, ◌∙◌}
use Rattle.std.specs.Prelude.{nat_eq, filter, filter_map, option_map}
use Rattle.std.specs.List.{AllByRecursion, cons_option}
use Rattle.std.specs.Result.{result_ok}
use Rattle.std.proofs.lemmas.Bool.{cases_Bool, eqb-true}
use Rattle.std.proofs.lemmas.Option.{none-some, same_Some, option_and_then_some}
use Rattle.sha2.specs.Sha256.{sha256}
use Rattle.sha2.proofs.Facts256.{length-sha256}
use Rattle.ad_bytes.specs.Reading.{IsBytes}
use Rattle.ad_dn.specs.declared.rdn.Dn.{Dn}
use Rattle.ad_dn.specs.Reading.{dn_of}
use Rattle.ad_value.specs.declared.syntax.Syntax.{Syntax}
use Rattle.ad_value.specs.Value.{Value, as_shown}
use Rattle.ad_value.specs.declared.fault.ValueFault.{ValueFault}
use Rattle.ad_value.specs.ValueOf.{normal_or_fault}
use Rattle.ad_schema.specs.declared.line.SchemaRecord.{SchemaRecord}
use Rattle.ad_schema.specs.Attributes.{attrs_of}
use Rattle.ad_schema.specs.Meaning.{attr_is_link}
use Rattle.ad_dir_model.specs.Object.{Stored, plain, link, Held, stored_in, linked, links_in}
use Rattle.ad_dir_model.specs.Objects.{Rise, is_live}
use Rattle.ad_dir_model.specs.Attributes.{syntax_at, is_password}
use Rattle.ad_dir_model.specs.Directory.{Directory}
use Rattle.ad_dir_model.specs.Names.{found}
use Rattle.ad_dir_model.specs.Changes.{with_values}
use Rattle.ad_dir_model.specs.Soundness.{IsValueBy, IsStored, IsHeld, AttrsRiseFrom}
use Rattle.ad_dir_model.proofs.WithValues.{rise_with, each_with}
use Rattle.ad_dir_model.proofs.Unlinking.{all_append, all_front}
use Rattle.ad_dir_model.proofs.Named.{found_live}
use Rattle.ad_change_values.specs.Values.{value_in, target_of, stored_of, all_stored}

-- ---- lists

pub all_of_filter_map : {A B : Type 0} (P : A → Type 0) (Q : B → Type 0) (f : A → Option B) (xs : List A)
    → ((x : A) (y : B) → P x → f x ≡ Some y → Q y) → AllByRecursion P xs → AllByRecursion Q (filter_map f xs)
all_of_filter_map P Q f [] each all = tt
all_of_filter_map P Q f (x ∷ xs) each all = by_found (f x) refl (all_of_filter_map P Q f xs each all.1)
  where
    by_found : (r : Option _) → f x ≡ r → AllByRecursion Q (filter_map f xs)
        → AllByRecursion Q (cons_option r (filter_map f xs))
    by_found None is rest = rest
    by_found (Some y) is rest = (each x y all.0 is, rest)

pub all_of_filter : {A : Type 0} (P : A → Type 0) (test : A → Bool) (xs : List A) → AllByRecursion P xs
    → AllByRecursion P (filter test xs)
all_of_filter P test [] all = tt
all_of_filter P test (x ∷ xs) all =
    elim (cases_Bool (test x)) [
      | inl passes ↦ rw passes (all.0, all_of_filter P test xs all.1)
      | inr fails ↦ rw fails (all_of_filter P test xs all.1)
    ]

pub all_of_both : {A : Type 0} (P : A → Type 0) (xs ys : List A) → AllByRecursion P xs → AllByRecursion P ys
    → AllByRecursion P (xs ++ ys)
all_of_both P [] ys first second = second
all_of_both P (x ∷ xs) ys first second = (first.0, all_of_both P xs ys first.1 second)

-- ---- one value

-- what a value shows reads back
abbrev pub ReadsBack : Type 0
ReadsBack = (s : Syntax) (bytes : List ℕ) (v : Value) → IsBytes bytes → normal_or_fault s bytes ≡ Ok v
    → normal_or_fault s v.shown ≡ Ok v

-- a value of the attribute, which leads to a live object if it is a link
abbrev pub IsGood : Directory → ℕ → Stored → Type 0
IsGood dir attr (plain v) = IsStored dir.schema attr (plain v)
IsGood dir attr (link n) = IsStored dir.schema attr (link n) × (is_live dir.objects n ≡ true)

value_by : ReadsBack → (schema : List SchemaRecord) (attr : ℕ) (bytes : List ℕ) (v : Value) → IsBytes bytes
    → value_in schema attr bytes ≡ Ok v → IsValueBy (is_password schema attr) (syntax_at schema attr) v
unfolding value_in
value_by back schema attr bytes v are is =
    elim (cases_Bool (is_password schema attr)) [
      | inl password ↦
          let same_value : as_shown (sha256 bytes) ≡ v = same_ok (as_shown (sha256 bytes)) v (rw password at is) in
          rw password (
            ap length (ap (λ (w : Value). w.shown) (sym same_value))
                ∙ length-sha256 bytes,
            sym same_value ∙ ap (λ (w : Value). as_shown w.shown) same_value,
          )
      | inr other ↦ rw other (back (syntax_at schema attr) bytes v are (rw other at is))
    ]
  where
    same_ok : (a b : Value) → ◌≡◌ {A = Result Value ValueFault} (Ok a) (Ok b) → a ≡ b
    same_ok a b e = cc

target_live : (dir : Directory) (bytes : List ℕ) (n : ℕ) → Rise dir.objects → target_of dir bytes ≡ Some n
    → is_live dir.objects n ≡ true
unfolding target_of
target_live dir bytes n rise is = option_and_then_some (λ (dn : Dn). found dir dn.rdns) (dn_of bytes) n is
    (λ (dn : Dn) first there. found_live dir dn.rdns n rise there)

pub stored_good : ReadsBack → (dir : Directory) (attr : ℕ) (bytes : List ℕ) (x : Stored) → Rise dir.objects
    → IsBytes bytes → stored_of dir attr bytes ≡ Some x → IsGood dir attr x
unfolding stored_of
stored_good back dir attr bytes x rise are is =
    elim (cases_Bool (attr_is_link dir.schema attr)) [
      | inl a_link ↦ by_target a_link (target_of dir bytes) refl (rw a_link at is)
      | inr no_link ↦ by_value no_link (value_in dir.schema attr bytes) refl (rw no_link at is)
    ]
  where
    by_target : attr_is_link dir.schema attr ≡ true → (t : Option ℕ) → target_of dir bytes ≡ t → option_map link t
        ≡ Some x → IsGood dir attr x
    by_target a_link None is' e = absurd (none-some x e)
    by_target a_link (Some n) is' e = subst (IsGood dir attr) (same_Some (link n) x e)
        (a_link, target_live dir bytes n rise is')

    by_value : attr_is_link dir.schema attr ≡ false → (r : Result Value ValueFault)
        → value_in dir.schema attr bytes ≡ r → option_map plain (result_ok r) ≡ Some x → IsGood dir attr x
    by_value no_link (Err e) is' e' = absurd (none-some x e')
    by_value no_link (Ok v) is' e' = subst (IsGood dir attr) (same_Some (plain v) x e')
        (no_link, value_by back dir.schema attr bytes v are is')

pub all_stored_good : ReadsBack → (dir : Directory) (attr : ℕ) (values : List (List ℕ)) → Rise dir.objects
    → AllByRecursion IsBytes values → AllByRecursion (IsGood dir attr) (all_stored dir attr values)
unfolding all_stored
all_stored_good back dir attr values rise are = all_of_filter_map IsBytes (IsGood dir attr)
    (stored_of dir attr) values (λ bytes x is_bytes is. stored_good back dir attr bytes x rise is_bytes is) are

-- ---- an attribute with its values

pub record IsGoodHeld (dir : Directory) (held : Held) : Type 0 where
  pub of_schema : held.attr < length (attrs_of dir.schema)
  pub some : 0 < length held.values
  pub each : AllByRecursion (IsGood dir held.attr) held.values

pub record AreGood (dir : Directory) (values : List Held) : Type 0 where
  pub rise : AttrsRiseFrom 0 values
  pub each : AllByRecursion (IsGoodHeld dir) values

-- from what a sound object has, and back

good_values : (dir : Directory) (attr : ℕ) (values : List Stored) → AllByRecursion (IsStored dir.schema attr) values
    → AllByRecursion (λ (n : ℕ). is_live dir.objects n ≡ true) (filter_map linked values)
    → AllByRecursion (IsGood dir attr) values
good_values dir attr [] each live = tt
good_values dir attr (plain v ∷ values) each live = (each.0, good_values dir attr values each.1 live)
good_values dir attr (link n ∷ values) each live = ((each.0, live.0), good_values dir attr values each.1 live.1)

pub good_held : (dir : Directory) (values : List Held) → AllByRecursion (IsHeld dir.schema) values
    → AllByRecursion (λ (n : ℕ). is_live dir.objects n ≡ true) (links_in values)
    → AllByRecursion (IsGoodHeld dir) values
unfolding links_in
good_held dir [] each live = tt
good_held dir (held ∷ others) each live =
    let parts = all_front (λ (n : ℕ). is_live dir.objects n ≡ true) (filter_map linked held.values) (links_in others)
    live in (
      record {
        of_schema = each.0.of_schema;
        some = each.0.some;
        each = good_values dir held.attr held.values each.0.each parts.0;
      },
      good_held dir others each.1 parts.1,
    )

stored_values : (dir : Directory) (attr : ℕ) (values : List Stored) → AllByRecursion (IsGood dir attr) values
    → AllByRecursion (IsStored dir.schema attr) values
stored_values dir attr [] each = tt
stored_values dir attr (plain v ∷ values) each = (each.0, stored_values dir attr values each.1)
stored_values dir attr (link n ∷ values) each = (each.0.0, stored_values dir attr values each.1)

live_links : (dir : Directory) (attr : ℕ) (values : List Stored) → AllByRecursion (IsGood dir attr) values
    → AllByRecursion (λ (n : ℕ). is_live dir.objects n ≡ true) (filter_map linked values)
live_links dir attr [] each = tt
live_links dir attr (plain v ∷ values) each = live_links dir attr values each.1
live_links dir attr (link n ∷ values) each = (each.0.1, live_links dir attr values each.1)

pub held_each : (dir : Directory) (values : List Held) → AllByRecursion (IsGoodHeld dir) values
    → AllByRecursion (IsHeld dir.schema) values
held_each dir [] each = tt
held_each dir (held ∷ others) each = (
  record {
    of_schema = each.0.of_schema;
    some = each.0.some;
    each = stored_values dir held.attr held.values
        each.0.each;
  },
  held_each dir others each.1,
)

pub held_links : (dir : Directory) (values : List Held) → AllByRecursion (IsGoodHeld dir) values
    → AllByRecursion (λ (n : ℕ). is_live dir.objects n ≡ true) (links_in values)
unfolding links_in
held_links dir [] each = tt
held_links dir (held ∷ others) each =
    all_append (λ (n : ℕ). is_live dir.objects n ≡ true) (filter_map linked held.values) (links_in others)
    (live_links dir held.attr held.values each.0.each) (held_links dir others each.1)

-- the values that are held of one attribute
pub stored_are_good : (dir : Directory) (attr : ℕ) (values : List Held) → AllByRecursion (IsGoodHeld dir) values
    → AllByRecursion (IsGood dir attr) (stored_in values attr)
unfolding stored_in
stored_are_good dir attr [] each = tt
stored_are_good dir attr (held ∷ others) each =
    elim (cases_Bool (nat_eq held.attr attr)) [
      | inl here ↦ rw here (subst (λ (a : ℕ). AllByRecursion (IsGood dir a) held.values)
          (eqb-true held.attr attr here) each.0.each)
      | inr other ↦ rw other (stored_are_good dir attr others each.1)
    ]

pub with_good : (dir : Directory) (attr : ℕ) (first : Stored) (new : List Stored) (values : List Held)
    → attr < length (attrs_of dir.schema) → AllByRecursion (IsGood dir attr) (first ∷ new) → AreGood dir values
    → AreGood dir (with_values attr (first ∷ new) values)
with_good dir attr first new values within each good = record {
  rise = rise_with attr (first ∷ new) 0 values good.rise (omega arith);
  each = each_with (IsGoodHeld dir) attr (first ∷ new) values
      (record { of_schema = within; some = omega arith; each = each }) good.each;
}
