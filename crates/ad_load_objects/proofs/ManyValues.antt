-- What is kept of many values tells what a walk over them would find.
use Rattle.std.proofs.Common.{◌≡◌, ℕ, ◌<◌, nat_lt, Bool, true, false, cond, inl, inr, List, [], ◌∷◌, ◌++◌, refl, sym}
use Rattle.std.proofs.Common.{ap, ◌∙◌, arith}
use Rattle.std.specs.Prelude.{◌==◌, ◌&&◌, ◌||◌}
use Rattle.std.specs.declared.cmp.Ordering.{Ordering}
use Rattle.std.specs.declared.cmp.Ordering.TheVariants.{Less, Equal, Greater}
use Rattle.std.specs.Ordering.{nat_cmp, int_cmp, ordering_then, is_eq}
use Rattle.std.specs.Option.{option_cmp}
use Rattle.std.specs.Cmp.Lexicographic.{slice_cmp}
use Rattle.std.specs.List.{list_any}
use Rattle.std.specs.BTreeSet.{contains, Updates}
use Rattle.std.proofs.lemmas.Bool.{cases_Bool, ne_eqb, ltb-true}
use Rattle.std.proofs.lemmas.List.Folds.{list_any-append}
use Rattle.std.proofs.lemmas.Map.Text.{is_eq-slice_cmp}
use Rattle.ad_value.specs.declared.value.Key.{Key}
use Rattle.ad_value.specs.declared.value.Key.TheVariants.{Bytes, Number}
use Rattle.ad_value.specs.Value.{same_key, number_in}
use Rattle.ad_load_objects.specs.declared.seen_values.ValueKey.{ValueKey}
use Rattle.ad_load_objects.specs.declared.seen_values.SeenValues.{SeenValues}
use Rattle.ad_load_objects.specs.Drafts.{Given, is_given}
use Rattle.ad_load_objects.specs.Had.{key_cmp, bytes_of, IsKeyOf, has_key, AreHad}

-- ---- when two keys are one

then_tied : (a b : Ordering) → is_eq (ordering_then a b) ≡ (is_eq a && is_eq b)
then_tied Less b = refl
then_tied Equal b = refl
then_tied Greater b = refl

and_end : (b : Bool) → (b && true) ≡ b
and_end true = refl
and_end false = refl

nat_tied : (x y : ℕ) → is_eq (nat_cmp x y) ≡ (x == y)
nat_tied x y = elim (cases_Bool (nat_lt x y)) [
  | inl less ↦
      let lt : x < y = ltb-true x y less in
      let differ : (x == y) ≡ false = ne_eqb x y (λ e. omega (arith, lt, e)) in
      rw (less, differ) refl
  | inr more ↦ rw more (by (x == y))
]
  where
    by : (same : Bool) → is_eq (cond same Equal Greater) ≡ same
    by true = refl
    by false = refl

parts_tied : (x y : Key) → is_eq (ordering_then (option_cmp int_cmp (number_in x) (number_in y))
    (slice_cmp nat_cmp (bytes_of x) (bytes_of y))) ≡ same_key x y
parts_tied (Bytes a) (Bytes b) = is_eq-slice_cmp a b
parts_tied (Number m) (Number n) = then_tied (int_cmp m n) Equal ∙ and_end (is_eq (int_cmp m n))
parts_tied (Bytes a) (Number n) = refl
parts_tied (Number m) (Bytes b) = refl

keys_tied : (a b : ℕ) (x y : Key) (one other : ValueKey) → IsKeyOf a x one → IsKeyOf b y other
    → is_eq (key_cmp one other) ≡ (a == b && same_key x y)
keys_tied a b x y one other is at =
    then_tied (nat_cmp one.attr other.attr)
    (ordering_then (option_cmp int_cmp one.number other.number)
    (slice_cmp nat_cmp one.bytes.items other.bytes.items))
    ∙ rw (is.attr, at.attr, is.number, at.number, is.bytes, at.bytes, nat_tied a b, parts_tied x y) refl

-- ---- one value more

or_last : (a b : Bool) → cond b true a ≡ (a || (b || false))
or_last true true = refl
or_last true false = refl
or_last false true = refl
or_last false false = refl

any_last : (test : Given → Bool) (given : List Given) (g : Given) → cond (test g) true (list_any test given)
    ≡ list_any test (given ++ g ∷ [])
any_last test given g = or_last (list_any test given) (test g) ∙ sym (list_any-append test given (g ∷ []))

pub had_more : (given : List Given) (g : Given) (old new : SeenValues) (one : ValueKey) → AreHad given old
    → IsKeyOf g.attr g.value.key one
    → Updates nat_cmp old.attrs new.attrs g.attr true → Updates key_cmp old.values new.values one true
    → AreHad (given ++ g ∷ []) new
had_more given g old new one are is attrs values = record {
  attrs = λ attr.
      attrs.0 attr
      ∙ ap (λ (b : Bool). cond b true (contains nat_cmp old.attrs attr)) (nat_tied g.attr attr)
      ∙ ap (λ (b : Bool). cond (g.attr == attr) true b) (are.attrs attr)
      ∙ any_last (is_given attr) given g;
  values = λ attr key other at.
      values.0 other
      ∙ ap (λ (b : Bool). cond b true (contains key_cmp old.values other))
      (keys_tied g.attr attr g.value.key key one other is at)
      ∙ ap (λ (b : Bool). cond (has_key attr key g) true b) (are.values attr key other at)
      ∙ any_last (has_key attr key) given g;
}
