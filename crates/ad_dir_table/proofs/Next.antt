-- The next number of all.
use Rattle.std.proofs.Common.{◌≡◌, ℕ, Bool, true, false, eqb, ◌&&◌, if◌then◌else◌, List, [], ◌∷◌, Option, Some, None}
use Rattle.std.proofs.Common.{refl, sym, ap, ◌∙◌, arith}
use Rattle.std.specs.Prelude.{find, filter, not, nat_lt, option_map}
use Rattle.std.specs.Ordering.{nat_cmp, is_lt}
use Rattle.std.specs.declared.cmp.Ordering.{Ordering}
use Rattle.std.specs.declared.ops.Bound.TheVariants.{Excluded, Unbounded}
use Rattle.std.specs.BTreeMap.Range.{range_contains, entries_between}
use Rattle.std.proofs.lemmas.Bool.Decides.{nat_tests}
use Rattle.sd_pool.specs.Blocks.{Extent}
use Rattle.ad_dir_model.specs.Object.{Object}
use Rattle.ad_dir_table.specs.declared.stored_object.StoredObject.{StoredObject}
use Rattle.ad_dir_table.specs.Fields.{AreKeyed, object_kept, objects_kept}
use Rattle.ad_dir_table.specs.Listing.{next_number}
use Rattle.ad_dir_table.proofs.Entries.{Compared, compared, less, equal, greater}

head : List (ℕ × StoredObject) → Option ℕ
head [] = None
head (entry ∷ entries) = Some entry.0

lt_test : (a q : ℕ) → (is_lt (nat_cmp a q) && not false) ≡ nat_lt a q
lt_test a q = by_case (compared a q)
  where
    by_case : Compared a q → (is_lt (nat_cmp a q) && not false) ≡ nat_lt a q
    by_case (less h) = ap (λ (o : Ordering). is_lt o && not false) h.is ∙ sym h.below
    by_case (equal h) =
        let same : eqb q a ≡ true = h.same in
        let none : nat_lt a q ≡ false = grind (arith, nat_tests) in
        ap (λ (o : Ordering). is_lt o && not false) h.is ∙ sym none
    by_case (greater h) = ap (λ (o : Ordering). is_lt o && not false) h.is ∙ sym h.below

heads : (live : List Extent) (entries : List (ℕ × StoredObject)) (above : ℕ) → AreKeyed entries
    → head (filter (λ (e : ℕ × StoredObject). range_contains nat_cmp (Excluded above) Unbounded e.0) entries)
    ≡ option_map (λ (o : Object). o.number)
    (find (λ (o : Object). nat_lt above o.number) (objects_kept live entries))
unfolding head
heads live [] above keyed = refl
heads live (entry ∷ entries) above keyed =
    ap (λ (t : Bool). head (if t then entry ∷ behind else behind)) (lt_test above entry.0 ∙ ap (nat_lt above) keyed.0)
    ∙ by_test (nat_lt above entry.1.object.number) (heads live entries above keyed.1)
  where
    behind : List (ℕ × StoredObject)
    behind = filter (λ (e : ℕ × StoredObject). range_contains nat_cmp (Excluded above) Unbounded e.0) entries

    by_test : (t : Bool) → head behind ≡ option_map (λ (o : Object). o.number)
        (find (λ (o : Object). nat_lt above o.number) (objects_kept live entries))
        → head (if t then entry ∷ behind else behind) ≡ option_map (λ (o : Object). o.number)
        (if t then Some (object_kept live entry.1) else find (λ (o : Object). nat_lt above o.number)
        (objects_kept live entries))
    by_test true rest = ap Some keyed.0
    by_test false rest = rest

pub above_is : (live : List Extent) (entries r rest : List (ℕ × StoredObject)) (above n : ℕ) (kept : StoredObject) → AreKeyed entries
    → r ≡ entries_between nat_cmp (Excluded above) Unbounded entries → r ≡ (n, kept) ∷ rest → Some n
    ≡ next_number (objects_kept live entries) above
unfolding head next_number
above_is live entries r rest above n kept keyed between is = sym (ap head is) ∙ ap head between
    ∙ heads live entries above keyed

pub above_none : (live : List Extent) (entries r : List (ℕ × StoredObject)) (above : ℕ) → AreKeyed entries → r
    ≡ entries_between nat_cmp (Excluded above) Unbounded entries → r ≡ [] → None
    ≡ next_number (objects_kept live entries) above
unfolding head next_number
above_none live entries r above keyed between is = sym (ap head is) ∙ ap head between ∙ heads live entries above keyed
