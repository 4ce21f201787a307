-- A directory has fewer than 2^32 - 1 objects, since their numbers rise and are below it.
use Rattle.std.proofs.Common.{◌≡◌, ℕ, ◌+◌, ◌-◌, ◌^◌, ◌<◌, true, List, [], ◌∷◌, ◌++◌, length, Some, is_some, refl, ap}
use Rattle.std.proofs.Common.{arith}
use Rattle.std.proofs.lemmas.Bool.{eq-eqb, ne_eqb}
use Rattle.ad_schema.specs.declared.line.SchemaRecord.{SchemaRecord}
use Rattle.ad_dir_model.specs.Object.{Object}
use Rattle.ad_dir_model.specs.Objects.{object_of, is_live, RiseAbove}
use Rattle.ad_dir_model.proofs.Finding.{live_above}
use Rattle.ad_dir_table.specs.Entry.{Entry, objects_in}
use Rattle.ad_dir.specs.Standing.{AreStanding}

found_here : (x : Object) (xs : List Object) → object_of (x ∷ xs) x.number ≡ Some x
unfolding object_of
found_here x xs = rw (eq-eqb x.number x.number refl) refl

live_later : (x : Object) (xs : List Object) (n : ℕ) {m : ℕ} → RiseAbove m (x ∷ xs) → is_live xs n ≡ true
    → is_live (x ∷ xs) n ≡ true
unfolding object_of
live_later x xs n rise live =
    let above : x.number < n = live_above x.number xs n rise.1 live in
    rw (ne_eqb x.number n (λ (e : x.number ≡ n). absurd (omega (arith, above, e)))) live

few_above : (m : ℕ) (objects : List Object) → RiseAbove m objects
    → ((n : ℕ) → is_live objects n ≡ true → n < 2 ^ 32 - 1) → m < 2 ^ 32 - 1 → m + length objects < 2 ^ 32 - 1
few_above m [] rise small below = omega (arith, below)
few_above m (x ∷ xs) rise small below =
    let own : x.number < 2 ^ 32 - 1 = small x.number (ap is_some (found_here x xs)) in
    let rest = few_above x.number xs rise.1 (λ n live. small n (live_later x xs n rise live)) own in
    let above : m < x.number = rise.0 in
    omega (arith, rest, above)

pub few_objects : (schema : List SchemaRecord) (objects : List Object) → AreStanding schema objects → length objects
    < 2 ^ 32 - 1
few_objects schema objects stand = let few = few_above 0 objects stand.rise (λ n live. stand.small n live)
    (omega arith) in omega (arith, few)

pub length_in : (entries : List Entry) → length (objects_in entries) ≡ length entries
length_in [] = refl
length_in (entry ∷ entries) = let rest = length_in entries in omega (arith, rest)

pub length_append : {A : Type 0} (xs ys : List A) → length (xs ++ ys) ≡ length xs + length ys
length_append [] ys = omega arith
length_append (x ∷ xs) ys = let rest = length_append xs ys in omega (arith, rest)

pub few_entries : (schema : List SchemaRecord) (entries : List Entry) → AreStanding schema (objects_in entries)
    → length entries < 2 ^ 32 - 1
few_entries schema entries stand = let few = few_objects schema (objects_in entries) stand in let long
    = length_in entries in omega (arith, few, long)
