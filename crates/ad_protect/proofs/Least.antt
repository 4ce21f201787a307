-- The protected objects are those of the least set and those protected alone.
use Rattle.std.proofs.Common.{◌≡◌, ℕ, Bool, true, false, List, [], ◌∷◌, map, Some, inl, inr, refl, sym, ap, ◌∙◌}
use Rattle.std.specs.Prelude.{filter, ◌||◌}
use Rattle.std.specs.List.{AllByRecursion}
use Rattle.std.proofs.lemmas.Bool.{cases_Bool, or_cases, or_right, both_ways, false_from_ne_true}
use Rattle.ad_dir_model.specs.Object.{Object}
use Rattle.ad_dir_model.specs.Objects.{Rise, object_of, object_at, numbers}
use Rattle.ad_dir_model.specs.Identity.{sid_in, self_sid}
use Rattle.ad_dir_model.specs.Directory.{Directory}
use Rattle.ad_dir_model.specs.Protection.{has, spread, protected, is_protected_alone, numbers_where}
use Rattle.ad_dir_model.proofs.Finding.{at-of}
use Rattle.ad_dir_model.proofs.LeastSet.{where_passes, all_objects, spread_within, is_protected as protected_has}
use Rattle.ad_protect.specs.Spreading.{IsLeast, is_protected}

-- ---- numbers that pass, and objects that pass

filter_numbers : (test : ℕ → Bool) (os : List Object) → filter test (map (λ (o : Object). o.number) os)
    ≡ numbers_where (λ o. test o.number) os
filter_numbers test [] = refl
filter_numbers test (x ∷ xs) =
    elim (cases_Bool (test x.number)) [
      | inl passes ↦ rw passes (ap (λ (ns : List ℕ). x.number ∷ ns) (filter_numbers test xs))
      | inr fails ↦ rw fails (filter_numbers test xs)
    ]

where_same : (first second : Object → Bool) (os : List Object) → AllByRecursion (λ (o : Object). first o ≡ second o)
    os → numbers_where first os ≡ numbers_where second os
where_same first second [] all = refl
where_same first second (x ∷ xs) all =
    elim (cases_Bool (second x)) [
      | inl passes ↦
          let too : first x ≡ true = all.0 ∙ passes in
          rw (too, passes) (ap (λ (ns : List ℕ). x.number ∷ ns) (where_same first second xs all.1))
      | inr fails ↦
          let too : first x ≡ false = all.0 ∙ fails in
          rw (too, fails) (where_same first second xs all.1)
    ]

-- ---- each object

least_has : (dir : Directory) (set : List ℕ) (n : ℕ) → Rise dir.objects → IsLeast dir set → has (spread dir) n ≡ true
    → has set n ≡ true
least_has dir set n rise least is = spread_within dir rise n is set least.closed

-- an object of the set that isn't protected alone is in the list that grows
spread_has : (dir : Directory) (set : List ℕ) (n : ℕ) → Rise dir.objects → IsLeast dir set
    → is_protected_alone dir (self_sid dir n) ≡ false
    → has set n ≡ true → has (spread dir) (object_at dir.objects n).number ≡ true
unfolding protected
spread_has dir set n rise least not_alone is =
    let of_run : has (protected dir) n ≡ true = protected_has dir n rise
    (record { live = least.are.live n is; reason = inl (least.are.reached n is) }) in
    elim (or_cases (has (spread dir) (object_at dir.objects n).number) (is_protected_alone dir (self_sid dir n))
    (where_passes (λ (o : Object). has (spread dir) o.number || is_protected_alone dir (sid_in dir.schema o))
    dir.objects n rise of_run)) [
      | inl there ↦ there
      | inr alone ↦ absurd (both_ways (is_protected_alone dir (self_sid dir n)) not_alone alone)
    ]

same_for : (dir : Directory) (set : List ℕ) (x : Object) → Rise dir.objects → IsLeast dir set
    → object_of dir.objects x.number ≡ Some x
    → is_protected dir set x.number ≡ (has (spread dir) x.number || is_protected_alone dir (sid_in dir.schema x))
same_for dir set x rise least is =
    elim (cases_Bool (is_protected_alone dir (sid_in dir.schema x))) [
      | inl alone ↦
          or_right (has set x.number) (is_protected_alone dir (self_sid dir x.number)) (own ∙ alone)
          ∙ sym (or_right (has (spread dir) x.number) (is_protected_alone dir (sid_in dir.schema x)) alone)
      | inr not_alone ↦ ap (λ (b : Bool). b || is_protected_alone dir (self_sid dir x.number)) (in_both not_alone)
          ∙ ap (λ (b : Bool). has (spread dir) x.number || b) own
    ]
  where
    at : object_at dir.objects x.number ≡ x
    at = at-of dir.objects x.number x is

    own : is_protected_alone dir (self_sid dir x.number) ≡ is_protected_alone dir (sid_in dir.schema x)
    own = ap (λ (o : Object). is_protected_alone dir (sid_in dir.schema o)) at

    in_both : is_protected_alone dir (sid_in dir.schema x) ≡ false → has set x.number ≡ has (spread dir) x.number
    in_both not_alone = elim (cases_Bool (has (spread dir) x.number)) [
      | inl there ↦ least_has dir set x.number rise least there ∙ sym there
      | inr absent ↦ false_from_ne_true (has set x.number) (λ is_in.
          both_ways (has (spread dir) x.number) absent
          (sym (ap (λ (o : Object). has (spread dir) o.number) at) ∙ spread_has dir set x.number rise least
          (own ∙ not_alone) is_in)) ∙ sym absent
    ]

pub those_protected : (dir : Directory) (set : List ℕ) → Rise dir.objects → IsLeast dir set
    → filter (is_protected dir set) (numbers dir.objects) ≡ protected dir
unfolding protected numbers
those_protected dir set rise least =
    filter_numbers (is_protected dir set) dir.objects
    ∙ where_same (λ (o : Object). is_protected dir set o.number)
    (λ (o : Object). has (spread dir) o.number || is_protected_alone dir (sid_in dir.schema o)) dir.objects
    (all_objects (λ (o : Object). is_protected dir set o.number
    ≡ (has (spread dir) o.number || is_protected_alone dir (sid_in dir.schema o))) 0 dir.objects rise
    (λ x is. same_for dir set x rise least is))
