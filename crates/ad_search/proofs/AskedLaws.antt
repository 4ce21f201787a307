-- Which objects have an entry: no others than those that the scope of the search leads to.
use Rattle.std.proofs.Common.{◌≡◌, ℕ, ◌<◌, ◌≤◌, Bool, true, false, ◌||◌, List, [], ◌∷◌, inl, inr, refl, sym, ap, ◌∙◌}
use Rattle.std.proofs.Common.{arith}
use Rattle.std.specs.Prelude.{nat_eq, ◌==◌, if◌then◌else◌, find, filter, Some, None}
use Rattle.std.specs.List.{AllByRecursion, list_any}
use Rattle.std.proofs.lemmas.Bool.{cases_Bool, eqb-true, eq-eqb, both_ways}
use Rattle.std.proofs.lemmas.Option.{same_Some}
use Rattle.ad_ids.specs.declared.token.Token.{Token}
use Rattle.ad_dn.specs.declared.rdn.Dn.{Dn}
use Rattle.ad_ldap.specs.MessageValue.{SearchValue}
use Rattle.ad_dir_model.specs.Object.{Object}
use Rattle.ad_dir_model.specs.Objects.{RiseAbove, object_of, is_live, numbers, children}
use Rattle.ad_dir_model.specs.Tree.{root}
use Rattle.ad_dir_model.specs.Names.{rdns_of}
use Rattle.ad_dir_model.specs.Directory.{Directory, parents}
use Rattle.ad_dir_model.specs.Changes.{goes_with}
use Rattle.ad_dir_model.proofs.Finding.{at-of, all_found}
use Rattle.ad_entries.specs.Seen.{seen_of, view}
use Rattle.ad_search.specs.Scope.{same_rdns, is_named, is_there}
use Rattle.ad_search.specs.Subtree.{subtree}
use Rattle.ad_search.specs.Steps.{objects_asked}
use Rattle.ad_search.specs.Reads.{found_among, reads_in, reads_at}
use Rattle.ad_search.specs.ReadSteps.{reads_behind}
use Rattle.ad_search.proofs.SeenLaws.{numbers_live, number_listed}
use Rattle.ad_search.proofs.FoundLaws.{Stands, named_found}
use Rattle.ad_search.proofs.ScopeLaws.{right_below, at_or_below}
use Rattle.ad_search.proofs.AmongLaws.{Has, only_numbers}
use Rattle.ad_search.proofs.BaseLaws.{at_base, at_level, in_subtree}

-- the one number of a list that rises
none_later : (n k : ℕ) (os : List Object) → RiseAbove k os → n ≤ k → filter (λ (m : ℕ). m == n) (numbers os) ≡ []
unfolding numbers
none_later n k [] rise le = refl
none_later n k (o ∷ os) rise le =
    let above : k < o.number = rise.0 in
    let apart : nat_eq o.number n ≡ false = other o.number (λ (e : o.number ≡ n). absurd (omega arith)) in
    rw apart (none_later n o.number os rise.1 (omega arith))
  where
    other : (m : ℕ) → (m ≡ n → ⊥) → nat_eq m n ≡ false
    other m not_so = elim (cases_Bool (nat_eq m n)) [
      | inl same ↦ absurd (not_so (eqb-true m n same))
      | inr is ↦ is
    ]

one_there : (n k : ℕ) (os : List Object) → RiseAbove k os → list_any (λ (m : ℕ). m == n) (numbers os) ≡ true
    → filter (λ (m : ℕ). m == n) (numbers os) ≡ n ∷ []
unfolding numbers
one_there n k [] rise has = absurd (both_ways false refl has)
one_there n k (o ∷ os) rise has = elim (cases_Bool (nat_eq o.number n)) [
  | inl here ↦
      let same : o.number ≡ n = eqb-true o.number n here in
      let below : n ≤ o.number = omega arith in
      rw here (ap (λ (ns : List ℕ). o.number ∷ ns) (none_later n o.number os rise.1 below)
      ∙ ap (λ (m : ℕ). m ∷ []) same)
  | inr other ↦ rw other (one_there n o.number os rise.1
      (sym (ap (λ (b : Bool). b || list_any (λ (m : ℕ). m == n) (numbers os)) other) ∙ has))
]

-- the numbers of the objects that pass a test
filtered : (test : Object → Bool) (by : ℕ → Bool) (os : List Object)
    → AllByRecursion (λ (o : Object). by o.number ≡ test o) os → numbers (filter test os) ≡ filter by (numbers os)
unfolding numbers
filtered test by [] are = refl
filtered test by (o ∷ os) are = elim (cases_Bool (test o)) [
  | inl has_it ↦ rw (are.0, has_it) (ap (λ (ns : List ℕ). o.number ∷ ns) (filtered test by os are.1))
  | inr lacks ↦ rw (are.0, lacks) (filtered test by os are.1)
]

-- ---- the scopes

module _ (dir : Directory) (token : Token) (search : SearchValue) (base : Dn) (n : ℕ) (stands : Stands dir)
    (live : is_live dir.objects n ≡ true) (same : same_rdns (rdns_of dir n) base.rdns ≡ true) where
  base_alone : search.scope ≡ 0 → found_among dir token search base (n ∷ []) ≡ found_among dir token search base
      (numbers dir.objects)
  base_alone scope =
      ap (found_among dir token search base)
      (sym (one_there n 0 dir.objects stands.rise (number_listed dir.objects n live)))
      ∙ only_numbers dir token search base (λ (m : ℕ). m == n) (numbers dir.objects)
      (λ m other has. eq-eqb m n (same_Some m n
      (sym (named_found dir m base.rdns stands other (at_base dir token search base m scope has))
      ∙ named_found dir n base.rdns stands live same)))
      (numbers_live dir.objects)

  level_alone : search.scope ≡ 1 → found_among dir token search base (children dir.objects n)
      ≡ found_among dir token search base (numbers dir.objects)
  unfolding numbers
  level_alone scope =
      ap (found_among dir token search base) (filtered (λ (o : Object). o.parent == n) (λ (m : ℕ). parents dir m == n)
      dir.objects (at_numbers dir.objects (all_found 0 dir.objects stands.rise)))
      ∙ only_numbers dir token search base (λ (m : ℕ). parents dir m == n) (numbers dir.objects)
      (λ m other has. eq-eqb (parents dir m) n
      (right_below dir base.rdns n m stands live same other (at_level dir token search base m scope has)))
      (numbers_live dir.objects)
    where
      at_numbers : (os : List Object) → AllByRecursion (λ (o : Object). object_of dir.objects o.number ≡ Some o) os
          → AllByRecursion (λ (o : Object). (parents dir o.number == n) ≡ (o.parent == n)) os
      at_numbers [] are = tt
      at_numbers (o ∷ os) are = (
        ap (λ (x : Object). x.parent == n) (at-of dir.objects o.number o are.0),
        at_numbers
            os are.1,
      )

  subtree_alone : (search.scope == 0) ≡ false → (search.scope == 1) ≡ false → found_among dir token search base
      (subtree dir n) ≡ found_among dir token search base (numbers dir.objects)
  unfolding subtree
  subtree_alone deeper whole =
      only_numbers dir token search base (goes_with dir n) (numbers dir.objects)
      (λ m other has. sym (at_or_below dir base.rdns n stands live same m other) ∙ in_subtree dir token search base m
      deeper whole has)
      (numbers_live dir.objects)

  pub enough : found_among dir token search base (objects_asked dir search.scope n) ≡ found_among dir token search base
      (numbers dir.objects)
  unfolding objects_asked
  enough = elim (cases_Bool (nat_eq search.scope 0)) [
    | inl alone ↦ rw alone (base_alone (eqb-true search.scope 0 alone))
    | inr deeper ↦ elim (cases_Bool (nat_eq search.scope 1)) [
      | inl level ↦ rw (deeper, level) (level_alone (eqb-true search.scope 1 level))
      | inr whole ↦ elim (cases_Bool (nat_eq n root)) [
        | inl all ↦ rw (deeper, whole, all) refl
        | inr some ↦ rw (deeper, whole, some) (subtree_alone deeper whole)
      ]
    ]
  ]
