-- Where an object stands that has an entry, and which are live.
use Rattle.std.proofs.Common.{◌≡◌, ℕ, ◌<◌, ◌≤◌, Bool, true, false, ◌&&◌, ◌||◌, List, [], ◌∷◌, ◌++◌, Result, Ok, Err}
use Rattle.std.proofs.Common.{IfOk, Vec, Global, inl, inr, refl, sym, subst, ap, ◌∙◌, arith}
use Rattle.std.specs.Prelude.{nat_eq, ◌==◌, if◌then◌else◌, cond, find, filter, is_some, Option, Some, None}
use Rattle.std.specs.List.{AllByRecursion, list_any}
use Rattle.std.proofs.lemmas.Bool.{cases_Bool, both_ways, and_parts, eqb-true, eqb-false, eq-eqb}
use Rattle.std.proofs.lemmas.List.{append-nil}
use Rattle.std.proofs.lemmas.Option.{none-some, same_Some}
use Rattle.ad_ids.specs.declared.token.Token.{Token}
use Rattle.ad_dn.specs.declared.rdn.Dn.{Dn}
use Rattle.ad_filter.specs.ThreeValues.{is_true}
use Rattle.ad_filter.specs.Filtering.{truth}
use Rattle.ad_ldap.specs.MessageValue.{SearchValue}
use Rattle.ad_dir_model.specs.Object.{Object}
use Rattle.ad_dir_model.specs.Objects.{RiseAbove, object_of, is_live, numbers, children}
use Rattle.ad_dir_model.specs.Names.{rdns_of}
use Rattle.ad_dir_model.specs.Tree.{root}
use Rattle.ad_dir_model.specs.Directory.{Directory}
use Rattle.ad_dir_model.specs.Changes.{goes_with}
use Rattle.ad_dir_model.proofs.Finding.{at-of, live-of, all_found}
use Rattle.ad_access_dir.specs.Sight.{is_visible}
use Rattle.ad_entries.specs.Seen.{Seen, seen_of, reads, view}
use Rattle.ad_search.specs.Scope.{same_rdns, is_right_below, is_at_or_below, in_scope, is_named, is_there, matched}
use Rattle.ad_entries.specs.Entry.{Entry}
use Rattle.ad_search.specs.Search.{done, is_found, entries_of, entries_from, answer_at}
use Rattle.ad_search.specs.Subtree.{subtree}
use Rattle.ad_search.specs.Steps.{entries_among, objects_asked}
use Rattle.ad_search.proofs.SeenLaws.{entries_apart, entries_later, no_entries, numbers_live, number_listed, any_found}
use Rattle.ad_search.proofs.AmongLaws.{Has}

pub at_base : (dir : Directory) (token : Token) (search : SearchValue) (base : Dn) (m : ℕ) → search.scope ≡ 0
    → Has dir token search base m ≡ true → same_rdns (rdns_of dir m) base.rdns ≡ true
unfolding is_found in_scope seen_of
at_base dir token search base m scope has =
    let parts = and_parts (is_visible dir token m) (is_found dir.schema search base (seen_of dir token m)) has in
    let found = and_parts (in_scope search.scope base.rdns (rdns_of dir m))
    (is_true (truth (reads dir.schema (seen_of dir token m)) search.filter)) parts.1 in
    sym (ap (λ (s : ℕ). in_scope s base.rdns (rdns_of dir m)) scope) ∙ found.0

pub at_level : (dir : Directory) (token : Token) (search : SearchValue) (base : Dn) (m : ℕ) → search.scope ≡ 1
    → Has dir token search base m ≡ true → is_right_below base.rdns (rdns_of dir m) ≡ true
unfolding is_found in_scope seen_of
at_level dir token search base m scope has =
    let parts = and_parts (is_visible dir token m) (is_found dir.schema search base (seen_of dir token m)) has in
    let found = and_parts (in_scope search.scope base.rdns (rdns_of dir m))
    (is_true (truth (reads dir.schema (seen_of dir token m)) search.filter)) parts.1 in
    sym (ap (λ (s : ℕ). in_scope s base.rdns (rdns_of dir m)) scope) ∙ found.0

pub in_subtree : (dir : Directory) (token : Token) (search : SearchValue) (base : Dn) (m : ℕ) → (search.scope == 0)
    ≡ false → (search.scope == 1) ≡ false → Has dir token search base m ≡ true
    → is_at_or_below base.rdns (rdns_of dir m) ≡ true
unfolding is_found in_scope seen_of
in_subtree dir token search base m deeper whole has =
    let parts = and_parts (is_visible dir token m) (is_found dir.schema search base (seen_of dir token m)) has in
    let found = and_parts (in_scope search.scope base.rdns (rdns_of dir m))
    (is_true (truth (reads dir.schema (seen_of dir token m)) search.filter)) parts.1 in
    rw (deeper, whole) at found.0

some_live : (test : Object → Bool) (objects os : List Object) → AllByRecursion (λ (m : ℕ). is_live objects m ≡ true)
    (numbers os) → AllByRecursion (λ (m : ℕ). is_live objects m ≡ true) (numbers (filter test os))
unfolding numbers
some_live test objects [] live = tt
some_live test objects (o ∷ os) live = elim (cases_Bool (test o)) [
  | inl has_it ↦ rw has_it (live.0, some_live test objects os live.1)
  | inr lacks ↦ rw lacks (some_live test objects os live.1)
]

-- the children of an object are live
pub children_live : {E : Type 0} → (r : Result (Vec ℕ Global) E) (objects : List Object) (n : ℕ) (ns : List ℕ) → ns
    ≡ children objects n → IfOk r (λ v. v.items ≡ ns)
    → IfOk r (λ v. AllByRecursion (λ (m : ℕ). is_live objects m ≡ true) v.items)
unfolding numbers
children_live (Ok v) objects n ns are is = rw (is ∙ are)
    (some_live (λ (o : Object). o.parent == n) objects objects (numbers_live objects))
children_live (Err e) objects n ns are is = tt

some_numbers_live : (test : ℕ → Bool) (objects : List Object) (ns : List ℕ)
    → AllByRecursion (λ (m : ℕ). is_live objects m ≡ true) ns → AllByRecursion (λ (m : ℕ). is_live objects m ≡ true)
    (filter test ns)
some_numbers_live test objects [] live = tt
some_numbers_live test objects (n ∷ ns) live = elim (cases_Bool (test n)) [
  | inl has_it ↦ rw has_it (live.0, some_numbers_live test objects ns live.1)
  | inr lacks ↦ rw lacks (some_numbers_live test objects ns live.1)
]

whole_live : (dir : Directory) (n : ℕ) → AllByRecursion (λ (m : ℕ). is_live dir.objects m ≡ true)
    (if n == root then numbers dir.objects else subtree dir n)
unfolding subtree
whole_live dir n = elim (cases_Bool (nat_eq n root)) [
  | inl all ↦ rw all (numbers_live dir.objects)
  | inr some ↦ rw some (some_numbers_live (goes_with dir n) dir.objects (numbers dir.objects)
      (numbers_live dir.objects))
]

-- so are the objects of a subtree
pub subtree_live : {E : Type 0} → (r : Result (Vec ℕ Global) E) (dir : Directory) (n : ℕ)
    → IfOk r (λ v. v.items ≡ (if n == root then numbers dir.objects else subtree dir n))
    → IfOk r (λ v. AllByRecursion (λ (m : ℕ). is_live dir.objects m ≡ true) v.items)
subtree_live (Ok v) dir n is = rw is (whole_live dir n)
subtree_live (Err e) dir n is = tt

pub passes : (test : Seen → Bool) (seen : List Seen) (x : Seen) → Some x ≡ find test seen → test x ≡ true
passes test [] x is = absurd (none-some x (sym is))
passes test (y ∷ ys) x is = elim (cases_Bool (test y)) [
  | inl here ↦ subst (λ (z : Seen). test z ≡ true)
      (sym (same_Some x y (is ∙ ap (λ (b : Bool). cond b (Some y) (find test ys)) here))) here
  | inr later ↦ passes test ys x (is ∙ ap (λ (b : Bool). cond b (Some y) (find test ys)) later)
]

pub any_of_found : (test : Seen → Bool) (seen : List Seen) (x : Seen) → Some x ≡ find test seen → list_any test seen
    ≡ true
any_of_found test seen x is = any_found test seen ∙ ap (λ (found : Option Seen). is_some found) (sym is)

pub none_of : (test : Seen → Bool) (seen : List Seen) → None ≡ find test seen → list_any test seen ≡ false
none_of test seen is = any_found test seen ∙ ap (λ (found : Option Seen). is_some found) (sym is)
