-- The live ids of a pool.
use Rattle.std.proofs.Common.{◌≡◌, ℕ, ◌+◌, ◌<◌, ◌≤◌, true, false, List, [], ◌∷◌, length, map, Option, Some, None}
use Rattle.std.proofs.Common.{is_some, refl, sym, subst, ap, ◌∙◌, arith, inl, inr, eqb}
use Rattle.std.proofs.lemmas.Bool.{cases_Bool, eqb-true, ne_eqb}
use Rattle.std.proofs.lemmas.Option.{none-some, same_Some}
use Rattle.sd_pool.specs.Blocks.{Extent}
use Rattle.sd_pool.specs.Pool.{Pool, extent_of, is_live, with_bytes, has_bytes, RiseFrom, AreDistinct, IsPool, IsPut}
use Rattle.sd_pool.specs.Pool.{shared, with_live}
use Rattle.sd_pool.specs.Sharers.{sharers_at, bytes_at, IsAdded}
use Rattle.sd_pool.proofs.SharerLaws.{live_extent, found_added, put_added, shared_added}
use Rattle.std.proofs.lemmas.Slice.Eq.{bytes_eq-Decides}
use Rattle.ad_dir_table.proofs.Counting.{among, Once}

abbrev pub ids_in : List Extent → List ℕ
ids_in live = map (λ extent. extent.id) live

pub live_among : (live : List Extent) (k : ℕ) → is_live live k ≡ among k (ids_in live)
unfolding extent_of
live_among [] k = refl
live_among (x ∷ xs) k =
    elim (cases_Bool (eqb x.id k)) [
      | inl same ↦ rw same refl
      | inr other ↦ rw other (live_among xs k)
    ]

pub live_once : (from blocks : ℕ) (live : List Extent) → RiseFrom from blocks live → Once (ids_in live)
live_once from blocks [] rise = tt
live_once from blocks (x ∷ xs) rise = (
  behind x.id (x.id + 1) xs rise.3 (omega arith),
  live_once (x.id + 1) blocks xs
      rise.3,
)
  where
    behind : (n least : ℕ) (ys : List Extent) → RiseFrom least blocks ys → n < least → among n (ids_in ys) ≡ false
    behind n least [] r lt = refl
    behind n least (y ∷ ys) r lt =
        let le : least ≤ y.id = r.0 in
        let apart : eqb y.id n ≡ false = ne_eqb y.id n (λ (e : y.id ≡ n). absurd (omega (arith, le, lt, e))) in
        rw apart (behind n (y.id + 1) ys r.3 (omega (arith, le, lt)))

pub live_length : (live : List Extent) → length live ≡ length (ids_in live)
live_length [] = refl
live_length (x ∷ xs) = let rest = live_length xs in omega (arith, rest)

-- ---- what is read off an extent

pub bytes_told : (live : List Extent) (id : ℕ) (e : Extent) → extent_of live id ≡ Some e → bytes_at live id ≡ e.bytes
unfolding bytes_at
bytes_told live id e is = rw is refl

pub sharers_told : (live : List Extent) (id : ℕ) (e : Extent) → extent_of live id ≡ Some e → sharers_at live id
    ≡ e.sharers
unfolding sharers_at
sharers_told live id e is = rw is refl

pub some_sharers : (from blocks : ℕ) (live : List Extent) (id : ℕ) (e : Extent) → RiseFrom from blocks live
    → extent_of live id ≡ Some e → 0 < e.sharers
unfolding extent_of
some_sharers from blocks [] id e rise is = absurd (none-some e is)
some_sharers from blocks (x ∷ xs) id e rise is =
    elim (cases_Bool (eqb x.id id)) [
      | inl same ↦ subst (λ (y : Extent). 0 < y.sharers) (same_Some x e (rw same at is)) rise.1
      | inr other ↦ some_sharers (x.id + 1) blocks xs id e rise.3 (rw other at is)
    ]

pub live_shared : (from blocks : ℕ) (live : List Extent) (id : ℕ) → RiseFrom from blocks live → is_live live id ≡ true
    → 0 < sharers_at live id
live_shared from blocks live id rise is =
    let e = live_extent live id is in
    subst (λ (n : ℕ). 0 < n) (sym (sharers_told live id e.0 e.1)) (some_sharers from blocks live id e.0 rise e.1)

-- ---- bytes stand once

none_with : (bytes : List ℕ) (live : List Extent) (id : ℕ) (e : Extent) → with_bytes live bytes ≡ None
    → extent_of live id ≡ Some e → e.bytes ≡ bytes → ⊥
unfolding extent_of with_bytes
none_with bytes [] id e none is same = none-some e is
none_with bytes (x ∷ xs) id e none is same =
    elim (cases_Bool (has_bytes bytes x)) [
      | inl has ↦ let bad : Some x ≡ None = rw has at none in none-some x (sym bad)
      | inr lacks ↦ elim (cases_Bool (eqb x.id id)) [
        | inl here ↦
            let own : x ≡ e = same_Some x e (rw here at is) in
            let has : has_bytes bytes x ≡ true = (bytes_eq-Decides x.bytes bytes).1
            (ap (λ (y : Extent). y.bytes) own ∙ same) in
            let bad : true ≡ false = sym has ∙ lacks in
            absurd cc
        | inr other ↦ none_with bytes xs id e (rw lacks at none) (rw other at is) same
      ]
    ]

of_id : (id : ℕ) (live : List Extent) (e : Extent) → extent_of live id ≡ Some e → e.id ≡ id
unfolding extent_of
of_id id [] e is = absurd (none-some e is)
of_id id (x ∷ xs) e is =
    elim (cases_Bool (eqb x.id id)) [
      | inl same ↦ let own : x ≡ e = same_Some x e (rw same at is) in sym (ap (λ (y : Extent). y.id) own)
          ∙ eqb-true x.id id same
      | inr other ↦ of_id id xs e (rw other at is)
    ]

-- two live ids with the same bytes are one
pub one_id : (live : List Extent) (i j : ℕ) (e f : Extent) → AreDistinct live → extent_of live i ≡ Some e
    → extent_of live j ≡ Some f → e.bytes ≡ f.bytes → i ≡ j
unfolding extent_of
one_id [] i j e f distinct at_i at_j same = absurd (none-some e at_i)
one_id (x ∷ xs) i j e f distinct at_i at_j same =
    elim (cases_Bool (eqb x.id i)) [
      | inl here_i ↦
          let own_i : x ≡ e = same_Some x e (rw here_i at at_i) in
          elim (cases_Bool (eqb x.id j)) [
            | inl here_j ↦ sym (eqb-true x.id i here_i) ∙ eqb-true x.id j here_j
            | inr other_j ↦ absurd (none_with x.bytes xs j f distinct.0 (rw other_j at at_j)
                (sym same ∙ sym (ap (λ (y : Extent). y.bytes) own_i)))
          ]
      | inr other_i ↦ elim (cases_Bool (eqb x.id j)) [
        | inl here_j ↦
            let own_j : x ≡ f = same_Some x f (rw here_j at at_j) in
            absurd (none_with x.bytes xs i e distinct.0 (rw other_i at at_i)
            (same ∙ sym (ap (λ (y : Extent). y.bytes) own_j)))
        | inr other_j ↦ one_id xs i j e f distinct.1 (rw other_i at at_i) (rw other_j at at_j) same
      ]
    ]

pub one_live : (live : List Extent) (i j : ℕ) → AreDistinct live → is_live live i ≡ true → is_live live j ≡ true
    → bytes_at live i ≡ bytes_at live j → i ≡ j
one_live live i j distinct live_i live_j same =
    let e = live_extent live i live_i in
    let f = live_extent live j live_j in
    one_id live i j e.0 f.0 distinct e.1 f.1 (sym (bytes_told live i e.0 e.1) ∙ same ∙ bytes_told live j f.0 f.1)

-- bytes that a live id has are found
pub found_with : (live : List Extent) (i : ℕ) (bytes : List ℕ) → is_live live i ≡ true → bytes_at live i ≡ bytes
    → is_some (with_bytes live bytes) ≡ true
found_with live i bytes live_i same = by_found (with_bytes live bytes) refl
  where
    by_found : (found : Option Extent) → with_bytes live bytes ≡ found → is_some found ≡ true
    by_found (Some e) is = refl
    by_found None is = let e = live_extent live i live_i
        in absurd (none_with bytes live i e.0 is e.1 (sym (bytes_told live i e.0 e.1) ∙ same))

-- what is found has an id
pub found_lives : (live : List Extent) (bytes : List ℕ) (e : Extent) (from blocks : ℕ) → RiseFrom from blocks live
    → with_bytes live bytes ≡ Some e → extent_of live e.id ≡ Some e
found_lives live bytes e from blocks rise is = (found_added live bytes e from blocks rise is).0

-- whether the bytes were there or not, their id gets one sharer more
pub put_adds : (old new : Pool) (id : ℕ) (bytes : List ℕ) → IsPool old
    → ((e : Extent) → with_bytes old.live bytes ≡ Some e → (id ≡ e.id) × (new ≡ with_live (shared e.id old.live) old))
    → (with_bytes old.live bytes ≡ None → IsPut old new id bytes) → IsAdded old.live new.live id bytes
put_adds old new id bytes is again fresh = by_found (with_bytes old.live bytes) refl
  where
    by_found : (found : Option Extent) → with_bytes old.live bytes ≡ found → IsAdded old.live new.live id bytes
    by_found None at = put_added old new id bytes (fresh at)
    by_found (Some e) at =
        let told = found_added old.live bytes e 0 old.blocks is.rise at in
        let added : IsAdded old.live (shared e.id old.live) e.id bytes
        = subst (IsAdded old.live (shared e.id old.live) e.id) told.1 (shared_added old.live e.id e told.0) in
        let here : IsAdded old.live (shared e.id old.live) id bytes
        = subst (λ (i : ℕ). IsAdded old.live (shared e.id old.live) i bytes) (sym (again e at).0) added in
        subst (λ (p : Pool). IsAdded old.live p.live id bytes) (sym (again e at).1) here
