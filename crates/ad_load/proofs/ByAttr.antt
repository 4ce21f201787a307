-- Values that are kept by their attributes, in order.
use Rattle.std.proofs.Common.{◌≡◌, ℕ, ◌<◌, nat_lt, true, false, inl, inr, None, List, [], ◌∷◌, ◌++◌, map, refl, sym}
use Rattle.std.proofs.Common.{ap, ◌∙◌, arith}
use Rattle.std.specs.Prelude.{◌==◌, unwrap_or}
use Rattle.std.specs.declared.cmp.Ordering.TheVariants.{Less, Equal, Greater}
use Rattle.std.specs.Ordering.{nat_cmp}
use Rattle.std.specs.List.{AllByRecursion}
use Rattle.std.specs.List.Sorted.{IsStrictlySortedBy}
use Rattle.std.specs.Map.{lookup, keys_of}
use Rattle.std.specs.BTreeMap.{insert_entry, is_at}
use Rattle.std.proofs.lemmas.Bool.{cases_Bool, eqb-true, ne_eqb, ltb-true, eq-eqb, false_from_ne_true}
use Rattle.std.proofs.lemmas.Cmp.{nat_cmp_total}
use Rattle.std.proofs.lemmas.List.{map-append}
use Rattle.ad_dir_objects.specs.declared.object.Stored.{Stored as StoredIn}
use Rattle.ad_dir_objects.specs.Seen.{stored_seen}
use Rattle.ad_dir_model.specs.Object.{Stored, Held}
use Rattle.ad_load.specs.Links.{with_stored}
use Rattle.ad_load.specs.Seen.{by_attr}

abbrev pub Entries : Type 0
Entries = List (ℕ × List StoredIn)

-- the attribute's values so far, and this one
abbrev pub more : ℕ → Entries → StoredIn → List StoredIn
more attr es v = unwrap_or (lookup (is_at (nat_cmp attr)) es) [] ++ v ∷ []

none_later : (attr least : ℕ) (es : Entries) → nat_cmp attr least ≡ Less
    → AllByRecursion (λ (k : ℕ). nat_cmp least k ≡ Less) (keys_of es)
    → lookup (is_at (nat_cmp attr)) es ≡ None
none_later attr least [] less all = refl
none_later attr least (e ∷ es) less all =
    let before : nat_cmp attr e.0 ≡ Less = nat_cmp_total.trans attr least e.0 less all.0 in
    rw before (none_later attr least es less all.1)

itself : (n : ℕ) → nat_cmp n n ≡ Equal
itself n =
    let not_less : nat_lt n n ≡ false = false_from_ne_true (nat_lt n n)
    (λ e. let lt : n < n = ltb-true n n e in omega (arith, lt)) in
    let same : (n == n) ≡ true = eq-eqb n n refl in
    rw (not_less, same) refl

pub put_by_attr : (es : Entries) (attr : ℕ) (v : StoredIn) → IsStrictlySortedBy nat_cmp (keys_of es)
    → by_attr (insert_entry nat_cmp (insert_entry nat_cmp es attr []) attr (more attr es v))
    ≡ with_stored attr (stored_seen v) (by_attr es)
unfolding IsStrictlySortedBy with_stored
put_by_attr [] attr v sorted = rw (itself attr) refl
put_by_attr (e ∷ es) attr v sorted = elim (cases_Bool (nat_lt attr e.0)) [
  | inl before ↦
      let lt : attr < e.0 = ltb-true attr e.0 before in
      let less : nat_cmp attr e.0 ≡ Less = rw before refl in
      let differ : (e.0 == attr) ≡ false = ne_eqb e.0 attr (λ q. omega (arith, lt, q)) in
      let none : lookup (is_at (nat_cmp attr)) es ≡ None = none_later attr e.0 es less sorted.0 in
      rw (less, itself attr, none, differ, before) refl
  | inr not_before ↦ elim (cases_Bool (attr == e.0)) [
    | inl same ↦
        let is : attr ≡ e.0 = eqb-true attr e.0 same in
        let equal : nat_cmp attr e.0 ≡ Equal = rw (not_before, same) refl in
        let also : (e.0 == attr) ≡ true = eq-eqb e.0 attr (sym is) in
        rw (equal, equal, also) (
        ap (λ (vs : List Stored). record { attr = e.0; values = vs } ∷ by_attr es) (map-append stored_seen e.1 (v ∷ []))
        ∙ ap (λ (n : ℕ). record { attr = n; values = map stored_seen e.1 ++ stored_seen v ∷ [] } ∷ by_attr es) (sym is))
    | inr other ↦
        let greater : nat_cmp attr e.0 ≡ Greater = rw (not_before, other) refl in
        let differ : (e.0 == attr) ≡ false
        = ne_eqb e.0 attr (λ q. let same : true ≡ false = sym (eq-eqb attr e.0 (sym q)) ∙ other in absurd cc) in
        rw (greater, greater, differ, not_before) (
        ap (λ (hs : List Held). record { attr = e.0; values = map stored_seen e.1 } ∷ hs)
        (put_by_attr es attr v sorted.1))
  ]
]
