-- The pool holds the objects' descriptors, and as many ids as there are different ones.
use Rattle.std.proofs.Common.{◌≡◌, ℕ, ◌+◌, ◌-◌, ◌^◌, ◌<◌, ◌≤◌, Bool, true, false, ltb, List, [], ◌∷◌, length, map}
use Rattle.std.proofs.Common.{Option, Some, None, is_some, unwrap_or, refl, sym, subst, ap, ◌∙◌, if◌then◌else◌, arith}
use Rattle.std.proofs.Common.{inl, inr, eqb}
use Rattle.std.specs.Prelude.{◌↔◌, ◌||◌, nat_lt, option_map}
use Rattle.std.specs.Option.{IfSome}
use Rattle.std.specs.List.{list_any}
use Rattle.std.proofs.lemmas.Bool.{cases_Bool, eqb-true, eqb-false, eq-eqb, both_ways}
use Rattle.std.proofs.lemmas.Bool.Decides.{nat_tests}
use Rattle.std.proofs.lemmas.Option.{none-some, same_Some}
use Rattle.ad_sd.specs.declared.parts.Sd.{Sd}
use Rattle.ad_sd.specs.SdIn.{sd_in}
use Rattle.ad_sd.specs.Normal.{SpellsNormal, normal_bytes}
use Rattle.sd_pool.specs.Blocks.{Extent}
use Rattle.sd_pool.specs.Pool.{Pool, is_live, with_bytes, AreDistinct, IsPool}
use Rattle.sd_pool.specs.Sharers.{bytes_at}
use Rattle.sd_pool.proofs.SharerLaws.{shared_live}
use Rattle.ad_sd.proofs.NormalReader.{spelled_in}
use Rattle.ad_dir_objects.specs.declared.object.Object.{Object as ObjectIn}
use Rattle.ad_dir_objects.specs.Seen.{object_seen}
use Rattle.ad_dir_model.specs.Object.{Object, no_object}
use Rattle.ad_dir_model.specs.Objects.{object_of, object_at, sd_at}
use Rattle.ad_dir_model.proofs.Finding.{of-live}
use Rattle.ad_dir_model.specs.SameSd.{same_sd}
use Rattle.ad_dir_model.proofs.SameSdLaws.{same_sd-is, same_sd-refl}
use Rattle.ad_dir_table.specs.declared.stored_object.StoredObject.{StoredObject}
use Rattle.ad_dir_table.specs.Listing.{descriptor_count, holders}
use Rattle.ad_dir_table.specs.Pooled.{IsPoolOf}
use Rattle.ad_dir_table.specs.Fields.{AllKept, HasNormal, IsNormalAt, sd_of, objects_kept, count_of}
use Rattle.ad_dir_table.proofs.Counting.{among, counts, as_many}
use Rattle.ad_dir_table.proofs.LiveLaws.{ids_in, live_among, live_once, live_length, sharers_told, bytes_told}
use Rattle.ad_dir_table.proofs.LiveLaws.{live_shared, one_live, found_with, found_lives}
use Rattle.ad_dir_table.proofs.Keeping.{Shares, all_counted, count_within}

-- ---- ids and descriptors

pub one_sd : (live : List Extent) (i j : ℕ) → IsNormalAt live i → IsNormalAt live j → sd_of live i ≡ sd_of live j
    → bytes_at live i ≡ bytes_at live j
one_sd live i j normal_i normal_j same = normal_i.1 ∙ ap normal_bytes same ∙ sym normal_j.1

less_is : (n : ℕ) → 0 < n → ltb 0 n ≡ true
less_is n lt = grind (arith, nat_tests)

module _ (pool : Pool) (is : IsPool pool) (entries : List (ℕ × StoredObject)) (shares : Shares pool.live entries)
    (normal : AllKept (HasNormal pool.live) entries) where
  named_live : (id : ℕ) → 0 < count_of id entries → is_live pool.live id ≡ true
  named_live id named = shared_live pool.live id (subst (λ (n : ℕ). 0 < n) (sym (shares id)) named)

  live_named : (id : ℕ) → is_live pool.live id ≡ true → 0 < count_of id entries
  live_named id live = subst (λ (n : ℕ). 0 < n) (shares id) (live_shared 0 pool.blocks pool.live id is.rise live)

  -- the bytes of a live id are normal
  pub live_normal : (id : ℕ) → is_live pool.live id ≡ true → IsNormalAt pool.live id
  unfolding count_of
  live_normal id live = named_in entries normal (live_named id live)
    where
      named_in : (es : List (ℕ × StoredObject)) → AllKept (HasNormal pool.live) es → 0 < count_of id es
          → IsNormalAt pool.live id
      named_in [] all some = absurd (omega (arith, some))
      named_in (e ∷ es) all some =
          elim (cases_Bool (eqb e.1.id.0 id)) [
            | inl here ↦ subst (IsNormalAt pool.live) (eqb-true e.1.id.0 id here) all.0
            | inr other ↦ named_in es all.1 (let rest : 0 < 0 + count_of id es = rw other at some
                in omega (arith, rest))
          ]

  -- two live ids are one exactly where their descriptors are
  pub ids_tell : (i j : ℕ) → is_live pool.live i ≡ true → is_live pool.live j ≡ true → sd_of pool.live i
      ≡ sd_of pool.live j → i ≡ j
  ids_tell i j live_i live_j same =
      one_live pool.live i j is.distinct live_i live_j
      (one_sd pool.live i j (live_normal i live_i) (live_normal j live_j) same)

  same_is : (i j : ℕ) → is_live pool.live i ≡ true → is_live pool.live j ≡ true → same_sd (sd_of pool.live i)
      (sd_of pool.live j) ≡ eqb j i
  same_is i j live_i live_j =
      elim (cases_Bool (eqb j i)) [
        | inl here ↦
            let e : j ≡ i = eqb-true j i here in
            subst (λ (k : ℕ). same_sd (sd_of pool.live i) (sd_of pool.live k) ≡ true) (sym e)
            (same_sd-refl (sd_of pool.live i)) ∙ sym here
        | inr other ↦ elim (cases_Bool (same_sd (sd_of pool.live i) (sd_of pool.live j))) [
          | inl same ↦ absurd (eqb-false j i other
              (sym (ids_tell i j live_i live_j (same_sd-is (sd_of pool.live i) (sd_of pool.live j) same))))
          | inr differ ↦ differ ∙ sym other
        ]
      ]

  AllLive : List (ℕ × StoredObject) → Type 0
  AllLive es = AllKept (λ (k : StoredObject). is_live pool.live k.id.0 ≡ true) es

  ids_of : List (ℕ × StoredObject) → List ℕ
  ids_of es = map (λ e. e.1.id.0) es

  any_is : (i : ℕ) (es : List (ℕ × StoredObject)) → is_live pool.live i ≡ true → AllLive es
      → list_any (λ (o : Object). same_sd (sd_of pool.live i) o.sd) (objects_kept pool.live es) ≡ among i (ids_of es)
  unfolding AllLive ids_of
  any_is i [] live_i live = refl
  any_is i (e ∷ es) live_i live =
      ap (λ (t : Bool). t || list_any (λ (o : Object). same_sd (sd_of pool.live i) o.sd) (objects_kept pool.live es))
      (same_is i e.1.id.0 live_i live.0)
      ∙ by_test (eqb e.1.id.0 i) (any_is i es live_i live.1)
    where
      by_test : (t : Bool) → list_any (λ (o : Object). same_sd (sd_of pool.live i) o.sd) (objects_kept pool.live es)
          ≡ among i (ids_of es)
          → (t || list_any (λ (o : Object). same_sd (sd_of pool.live i) o.sd) (objects_kept pool.live es))
          ≡ (if t then true else among i (ids_of es))
      by_test true rest = refl
      by_test false rest = rest

  holders_are : (i : ℕ) (es : List (ℕ × StoredObject)) → is_live pool.live i ≡ true → AllLive es → holders (sd_of pool.live i)
      (objects_kept pool.live es) ≡ count_of i es
  unfolding AllLive holders count_of
  holders_are i [] live_i live = refl
  holders_are i (e ∷ es) live_i live =
      ap (λ (t : Bool). (if t then 1 else 0) + holders (sd_of pool.live i) (objects_kept pool.live es))
      (same_is i e.1.id.0 live_i live.0)
      ∙ ap (λ (n : ℕ). (if eqb e.1.id.0 i then 1 else 0) + n) (holders_are i es live_i live.1)

  counted : (es : List (ℕ × StoredObject)) → AllLive es → descriptor_count (objects_kept pool.live es) ≡ counts (ids_of es)
  unfolding AllLive ids_of descriptor_count
  counted [] live = refl
  counted (e ∷ es) live =
      ap (λ (t : Bool). (if t then 0 else 1) + descriptor_count (objects_kept pool.live es))
      (any_is e.1.id.0 es live.0 live.1)
      ∙ ap (λ (n : ℕ). (if among e.1.id.0 (ids_of es) then 0 else 1) + n) (counted es live.1)

  among_named : (id : ℕ) (es : List (ℕ × StoredObject)) → among id (ids_of es) ≡ nat_lt 0 (count_of id es)
  unfolding ids_of count_of
  among_named id [] = refl
  among_named id (e ∷ es) =
      elim (cases_Bool (eqb e.1.id.0 id)) [
        | inl here ↦ rw here (sym (less_is (1 + count_of id es) (omega arith)))
        | inr other ↦
            let none : count_of id es ≡ 0 + count_of id es = omega arith in
            rw other (among_named id es ∙ ap (nat_lt 0) none)
      ]

  all_live : AllLive entries
  unfolding AllLive
  all_live = each entries (all_counted entries)
    where
      each : (es : List (ℕ × StoredObject)) → AllKept (λ (k : StoredObject). 0 < count_of k.id.0 entries) es
          → AllKept (λ (k : StoredObject). is_live pool.live k.id.0 ≡ true) es
      each [] all = tt
      each (e ∷ es) all = (named_live e.1.id.0 all.0, each es all.1)

  same_ids : (id : ℕ) → among id (ids_in pool.live) ≡ among id (ids_of entries)
  same_ids id = sym (live_among pool.live id) ∙ by_live (is_live pool.live id) refl ∙ sym (among_named id entries)
    where
      by_live : (t : Bool) → is_live pool.live id ≡ t → t ≡ nat_lt 0 (count_of id entries)
      by_live true live = sym (less_is (count_of id entries) (live_named id live))
      by_live false dead =
          elim (cases_Bool (ltb 0 (count_of id entries))) [
            | inl some ↦ absurd (both_ways (is_live pool.live id) dead
                (named_live id (more (count_of id entries) some)))
            | inr none ↦ sym none
          ]
        where
          more : (n : ℕ) → ltb 0 n ≡ true → 0 < n
          more n lt = grind (arith, nat_tests)

  pub live_count : length pool.live ≡ descriptor_count (objects_kept pool.live entries)
  live_count = live_length pool.live ∙ as_many (ids_of entries) (ids_in pool.live)
      (live_once 0 pool.blocks pool.live is.rise) same_ids ∙ sym (counted entries all_live)

  pub is_pool_of : IsPoolOf (objects_kept pool.live entries) pool
  unfolding AllLive object_of
  is_pool_of = record {
    shared = λ id e at.
        let live : is_live pool.live id ≡ true = ap is_some at in
        record {
          sd = sd_of pool.live id;
          normal = subst (SpellsNormal (sd_of pool.live id)) (bytes_told pool.live id e at) (live_normal id live);
          sharers = sym (sharers_told pool.live id e at) ∙ shares id ∙ sym (holders_are id entries live all_live);
        };
    own = λ number o at. own_in entries all_live number o at;
    count = live_count;
  }
    where
      own_in : (es : List (ℕ × StoredObject)) → AllLive es → (number : ℕ) (o : Object) → object_of (objects_kept pool.live es)
          number ≡ Some o → is_some (with_bytes pool.live (normal_bytes o.sd)) ≡ true
      own_in [] live number o at = absurd (none-some o at)
      own_in (e ∷ es) live number o at =
          elim (cases_Bool (eqb e.1.object.number number)) [
            | inl here ↦
                let sd : sd_of pool.live e.1.id.0 ≡ o.sd = ap (λ (x : Object). x.sd) (same_Some _ o (rw here at at)) in
                found_with pool.live e.1.id.0 (normal_bytes o.sd) live.0
                ((live_normal e.1.id.0 live.0).1 ∙ ap normal_bytes sd)
            | inr other ↦ own_in es live.1 number o (rw other at at)
          ]

  -- bytes that are there have fewer sharers than there may be, and ids are left
  pub few_sharers : (bytes : List ℕ) → length entries < 2 ^ 32 - 1 → IfSome (with_bytes pool.live bytes)
      (λ (e : Extent). e.sharers < 2 ^ 32 - 1)
  few_sharers bytes few = by_found (with_bytes pool.live bytes) refl
    where
      by_found : (found : Option Extent) → with_bytes pool.live bytes ≡ found
          → IfSome found (λ (e : Extent). e.sharers < 2 ^ 32 - 1)
      by_found None at = tt
      by_found (Some e) at =
          let same = sym (sharers_told pool.live e.id e (found_lives pool.live bytes e 0 pool.blocks is.rise at))
          ∙ shares e.id in
          let within = count_within e.id entries in
          omega (arith, same, within, few)

  pub few_live : length entries < 2 ^ 32 - 1 → length pool.live < 2 ^ 32 - 1
  unfolding descriptor_count
  few_live few =
      let count = live_count in
      let most = count_most (objects_kept pool.live entries) in
      let long = length_kept entries in
      omega (arith, few, count, most, long)
    where
      count_most : (os : List Object) → descriptor_count os ≤ length os
      count_most [] = omega arith
      count_most (o ∷ os) =
          let rest = count_most os in
          elim (cases_Bool (list_any (λ (other : Object). same_sd o.sd other.sd) os)) [
            | inl again ↦ rw again (omega (arith, rest))
            | inr last ↦ rw last (omega (arith, rest))
          ]

      length_kept : (es : List (ℕ × StoredObject)) → length (objects_kept pool.live es) ≡ length es
      length_kept [] = refl
      length_kept (e ∷ es) = let rest = length_kept es in omega (arith, rest)

-- two ids are one exactly where their descriptors are
pub ids_same : (live : List Extent) (i j : ℕ) (a b : Sd) → AreDistinct live → is_live live i ≡ true → is_live live j
    ≡ true → SpellsNormal a (bytes_at live i) → SpellsNormal b (bytes_at live j) → (eqb i j ≡ true) ↔ (a ≡ b)
ids_same live i j a b distinct live_i live_j spells_a spells_b = (
  λ e. sym (spelled_in (bytes_at live i) a spells_a) ∙ ap (λ (k : ℕ). sd_in (bytes_at live k)) (eqb-true i j e)
      ∙ spelled_in (bytes_at live j) b spells_b,
  λ e. eq-eqb i j (one_live live i j distinct live_i live_j (spells_a.1 ∙ ap normal_bytes e ∙ sym spells_b.1)),
)

-- ---- what is told of an object that was found

pub sd_told : (o : Object) (objects : List Object) (number : ℕ) → Some o ≡ object_of objects number
    → sd_at objects number ≡ o.sd
unfolding object_at
sd_told o objects number e = ap (λ (found : Option Object). (unwrap_or found no_object).sd) (sym e)

pub object_told : (object : ObjectIn) (sd : Sd) (objects : List Object) (number : ℕ) → Some (object_seen object sd)
    ≡ object_of objects number → Some (object_seen object (sd_at objects number)) ≡ object_of objects number
object_told object sd objects number e = ap (λ (x : Sd). Some (object_seen object x))
    (sd_told (object_seen object sd) objects number e) ∙ e

pub sd_live : (objects : List Object) (number : ℕ) (sd : Sd) → true ≡ is_some (object_of objects number) → sd
    ≡ sd_at objects number → Some sd ≡ option_map (λ (o : Object). o.sd) (object_of objects number)
sd_live objects number sd live is = ap Some is
    ∙ sym (ap (option_map (λ (o : Object). o.sd)) (of-live objects number (sym live)))
