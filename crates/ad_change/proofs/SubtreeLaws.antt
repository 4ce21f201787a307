-- The objects that go in a deletion.
use Rattle.std.proofs.Common.{◌≡◌, ℕ, zero, suc, ◌<◌, Bool, true, false, List, [], ◌∷◌, Option, Some, None}
use Rattle.std.proofs.Common.{inl, inr, refl, sym, subst, ap, ◌∙◌, arith}
use Rattle.std.specs.Prelude.{nat_eq, nat_lt, find, is_none}
use Rattle.std.specs.Option.{option_map}
use Rattle.std.proofs.lemmas.Bool.{cases_Bool, both_ways, eqb-true, eq-eqb, ne_eqb, lt-ltb, or_left, and_from}
use Rattle.std.proofs.lemmas.Bool.{false≢true}
use Rattle.ad_dir_model.specs.Object.{Object}
use Rattle.ad_dir_model.specs.Objects.{Rise, is_child, is_live, object_at, next_child}
use Rattle.ad_dir_model.specs.Tree.{root, is_below_within, is_below}
use Rattle.ad_dir_model.specs.Directory.{Directory, parents}
use Rattle.ad_dir_model.specs.Changes.{goes_with}
use Rattle.ad_dir_model.specs.Limits.{max_depth}
use Rattle.ad_dir_model.proofs.Finding.{of-live, at_number, at-not_live, live_above, none_found}
use Rattle.ad_change.specs.Removing.{IsLeaving, AreGoing}

-- ---- one that stands alone

none_mapped : (found : Option Object) → is_none (option_map (λ (o : Object). o.number) found) ≡ true → found ≡ None
none_mapped None is = refl
none_mapped (Some o) is = absurd (false≢true is)

no_child_found : (os : List Object) (target : ℕ) → is_none (next_child os target 0) ≡ true → find (is_child target 0)
    os ≡ None
unfolding next_child
no_child_found os target none = none_mapped (find (is_child target 0) os) none

-- it is no one's parent
pub no_child : (dir : Directory) (target : ℕ) → Rise dir.objects → IsLeaving dir target true → (n : ℕ) → parents dir n
    ≡ target → ⊥
no_child dir target rise leaving n is =
    elim (cases_Bool (is_live dir.objects n)) [
      | inl live ↦
          let above : 0 < n = live_above 0 dir.objects n rise live in
          let number : (object_at dir.objects n).number ≡ n = at_number dir.objects n live in
          let none = none_found (is_child target 0) dir.objects n (object_at dir.objects n)
          (no_child_found dir.objects target (sym leaving.childless)) (of-live dir.objects n live) in
          both_ways (is_child target 0 (object_at dir.objects n)) none
          (and_from (nat_eq (object_at dir.objects n).parent target) (nat_lt 0 (object_at dir.objects n).number)
          (eq-eqb (object_at dir.objects n).parent target is)
          (lt-ltb 0 (object_at dir.objects n).number (subst (λ (k : ℕ). 0 < k) (sym number) above)))
      | inr gone ↦
          let above : 0 < target = live_above 0 dir.objects target rise leaving.live in
          let zero_is : 0 ≡ target = sym (ap (λ (o : Object). o.parent) (at-not_live dir.objects n gone)) ∙ is in
          absurd (omega (arith, above, zero_is))
    ]

below_none : (parent : ℕ → ℕ) (levels other n : ℕ) → ((k : ℕ) → parent k ≡ other → ⊥) → is_below_within parent levels
    other n ≡ false
unfolding is_below_within
below_none parent zero other n none = refl
below_none parent (suc levels) other n none =
    elim (cases_Bool (nat_eq n root)) [
      | inl here ↦ rw here refl
      | inr below ↦ rw (below, ne_eqb (parent n) other (none n)) (below_none parent levels other (parent n) none)
    ]

pub goes_alone : (dir : Directory) (target n : ℕ) → Rise dir.objects → IsLeaving dir target true
    → goes_with dir target n ≡ nat_eq n target
unfolding goes_with is_below
goes_alone dir target n rise leaving =
    elim (cases_Bool (nat_eq n target)) [
      | inl same ↦ rw same refl
      | inr differ ↦ rw (differ, below_none (parents dir) max_depth target n (no_child dir target rise leaving)) refl
    ]

pub goes_below : (dir : Directory) (target n : ℕ) → (n ≡ target → ⊥) → is_below (parents dir) target n
    ≡ goes_with dir target n
unfolding goes_with
goes_below dir target n apart = rw (ne_eqb n target apart) refl

pub stays_alone : (dir : Directory) (target n : ℕ) (alone : Bool) → Rise dir.objects → IsLeaving dir target alone
    → alone ≡ true → (n ≡ target → ⊥)
    → false ≡ goes_with dir target n
stays_alone dir target n alone rise leaving is apart =
    sym (goes_alone dir target n rise (subst (IsLeaving dir target) is leaving) ∙ ne_eqb n target apart)

pub itself_goes : (dir : Directory) (target : ℕ) → goes_with dir target target ≡ true
unfolding goes_with
itself_goes dir target = or_left (nat_eq target target) (is_below (parents dir) target target)
    (eq-eqb target target refl)

-- then it goes alone
pub going_alone : (dir : Directory) (target : ℕ) → Rise dir.objects → IsLeaving dir target true
    → AreGoing dir target (target ∷ [])
going_alone dir target rise leaving = record {
  each = ((leaving.live, itself_goes dir target), tt);
  all = λ n live goes. or_left (nat_eq target n) false
      (eq-eqb target n (sym (eqb-true n target (sym (goes_alone dir target n rise leaving) ∙ goes))));
  order = ((refl, λ child live is. absurd (no_child dir target rise leaving child is)), tt);
}
