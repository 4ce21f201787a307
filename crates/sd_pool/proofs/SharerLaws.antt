-- What putting and giving back do to the sharers and the bytes of each id.
use Rattle.std.proofs.Common.{◌≡◌, ℕ, ◌+◌, ◌-◌, ◌<◌, ◌≤◌, Bool, true, false, List, [], ◌∷◌, Option, Some, None}
use Rattle.std.proofs.Common.{is_some, refl, sym, subst, ap, ◌∙◌, if◌then◌else◌, arith, inl, inr, eqb, ltb}
use Rattle.std.specs.Option.{option_map_or}
use Rattle.std.proofs.lemmas.Bool.{cases_Bool, eqb-true, eqb-false, eq-eqb, ne_eqb, both_ways}
use Rattle.std.proofs.lemmas.Option.{none-some, same_Some}
use Rattle.std.proofs.lemmas.Slice.Eq.{bytes_eq-Decides}
use Rattle.sd_pool.specs.Blocks.{Extent}
use Rattle.sd_pool.specs.Pool.{Pool, has_bytes, extent_of, is_live, with_bytes, inserted, shared, given_back, IsPut}
use Rattle.sd_pool.specs.Pool.{RiseFrom}
use Rattle.sd_pool.specs.Sharers.{sharers_at, bytes_at, IsAdded, IsTaken}

-- ---- finding by id

of_id : (id : ℕ) (live : List Extent) (e : Extent) → extent_of live id ≡ Some e → e.id ≡ id
unfolding extent_of
of_id id [] e is = absurd (none-some e is)
of_id id (x ∷ xs) e is =
    elim (cases_Bool (eqb x.id id)) [
      | inl same ↦ let own : x ≡ e = same_Some x e (rw same at is) in sym (ap (λ (y : Extent). y.id) own)
          ∙ eqb-true x.id id same
      | inr other ↦ of_id id xs e (rw other at is)
    ]

sharers_of : (live : List Extent) (id : ℕ) (found : Option Extent) → extent_of live id ≡ found → sharers_at live id
    ≡ option_map_or (λ (e : Extent). e.sharers) found 0
unfolding sharers_at
sharers_of live id found is = ap (λ (f : Option Extent). option_map_or (λ (e : Extent). e.sharers) f 0) is

bytes_of : (live : List Extent) (id : ℕ) (found : Option Extent) → extent_of live id ≡ found → bytes_at live id
    ≡ option_map_or (λ (e : Extent). e.bytes) found []
unfolding bytes_at
bytes_of live id found is = ap (λ (f : Option Extent). option_map_or (λ (e : Extent). e.bytes) f []) is

-- what is found by other ids is the same
pub same_sharers : (old new : List Extent) (id : ℕ) → extent_of new id ≡ extent_of old id → sharers_at new id
    ≡ sharers_at old id
unfolding sharers_at
same_sharers old new id is = ap (λ (f : Option Extent). option_map_or (λ (e : Extent). e.sharers) f 0) is

pub same_bytes : (old new : List Extent) (id : ℕ) → extent_of new id ≡ extent_of old id → bytes_at new id
    ≡ bytes_at old id
unfolding bytes_at
same_bytes old new id is = ap (λ (f : Option Extent). option_map_or (λ (e : Extent). e.bytes) f []) is

-- ---- an extent more

inserted_own : (e : Extent) (live : List Extent) → is_live live e.id ≡ false → extent_of (inserted e live) e.id ≡ Some e
unfolding extent_of inserted
inserted_own e [] free = rw (eq-eqb e.id e.id refl) refl
inserted_own e (x ∷ xs) free =
    elim (cases_Bool (ltb e.id x.id)) [
      | inl before ↦ rw (before, eq-eqb e.id e.id refl) refl
      | inr behind ↦ elim (cases_Bool (eqb x.id e.id)) [
        | inl same ↦ let bad : true ≡ false = rw same at free in absurd cc
        | inr other ↦ rw (behind, other) (inserted_own e xs (rw other at free))
      ]
    ]

inserted_other : (e : Extent) (live : List Extent) (id : ℕ) → (e.id ≡ id → ⊥) → extent_of (inserted e live) id
    ≡ extent_of live id
unfolding extent_of inserted
inserted_other e [] id apart = rw (ne_eqb e.id id apart) refl
inserted_other e (x ∷ xs) id apart =
    elim (cases_Bool (ltb e.id x.id)) [
      | inl before ↦ rw (before, ne_eqb e.id id apart) refl
      | inr behind ↦ rw behind (ap (λ (rest : Option Extent). if eqb x.id id then Some x else rest)
          (inserted_other e xs id apart))
    ]

pub put_added : (old new : Pool) (id : ℕ) (bytes : List ℕ) → IsPut old new id bytes → IsAdded old.live new.live id bytes
put_added old new id bytes put = record {
  sharers = λ other. elim (cases_Bool (eqb id other)) [
    | inl same ↦
        let e : id ≡ other = eqb-true id other same in
        rw (same, ← e) (sharers_of new.live id (Some (added put)) (own put) ∙ sym (ap (λ (n : ℕ). n + 1) (none put)))
    | inr apart ↦ rw apart (same_sharers old.live new.live other (others put other (eqb-false id other apart))
        ∙ omega arith)
  ];
  kept = λ other live. same_bytes old.live new.live other
      (others put other (λ e. both_ways (is_live old.live other)
      (subst (λ (k : ℕ). is_live old.live k ≡ false) e put.free.free) live));
  live = ap is_some (own put);
  own = bytes_of new.live id (Some (added put)) (own put);
}
  where
    added : IsPut old new id bytes → Extent
    added p = record { id = id; block = p.block; bytes = bytes; sharers = 1 }

    own : (p : IsPut old new id bytes) → extent_of new.live id ≡ Some (added p)
    own p = ap (λ (live : List Extent). extent_of live id) p.live ∙ inserted_own (added p) old.live p.free.free

    others : (p : IsPut old new id bytes) (other : ℕ) → (id ≡ other → ⊥) → extent_of new.live other
        ≡ extent_of old.live other
    others p other apart = ap (λ (live : List Extent). extent_of live other) p.live ∙ inserted_other (added p)
        old.live other apart

    none : (p : IsPut old new id bytes) → sharers_at old.live id ≡ 0
    none p = by_found (extent_of old.live id) refl p.free.free
      where
        by_found : (found : Option Extent) → extent_of old.live id ≡ found → is_some found ≡ false
            → sharers_at old.live id ≡ 0
        by_found None is free = sharers_of old.live id None is
        by_found (Some e) is free = absurd cc

-- ---- a sharer more

abbrev more : Extent → Extent
more e = record e { sharers = e.sharers + 1 }

shared_own : (id : ℕ) (e : Extent) (live : List Extent) → extent_of live id ≡ Some e → extent_of (shared id live) id
    ≡ Some (more e)
unfolding extent_of shared
shared_own id e [] is = absurd (none-some e is)
shared_own id e (x ∷ xs) is =
    elim (cases_Bool (eqb x.id id)) [
      | inl same ↦ rw (same, same) (ap (λ (y : Extent). Some (more y)) (same_Some x e (rw same at is)))
      | inr other ↦ rw (other, other) (shared_own id e xs (rw other at is))
    ]

shared_other : (id : ℕ) (live : List Extent) (other : ℕ) → (id ≡ other → ⊥) → extent_of (shared id live) other
    ≡ extent_of live other
unfolding extent_of shared
shared_other id [] other apart = refl
shared_other id (x ∷ xs) other apart =
    elim (cases_Bool (eqb x.id id)) [
      | inl same ↦
          let differ : eqb x.id other ≡ false
          = ne_eqb x.id other (λ (e : x.id ≡ other). apart (sym (eqb-true x.id id same) ∙ e)) in
          rw (same, differ) refl
      | inr differ ↦ rw differ (ap (λ (rest : Option Extent). if eqb x.id other then Some x else rest)
          (shared_other id xs other apart))
    ]

pub shared_added : (live : List Extent) (id : ℕ) (e : Extent) → extent_of live id ≡ Some e
    → IsAdded live (shared id live) id e.bytes
shared_added live id e is = record {
  sharers = λ other. elim (cases_Bool (eqb id other)) [
    | inl same ↦
        let own : id ≡ other = eqb-true id other same in
        rw (same, ← own) (sharers_of (shared id live) id (Some (more e)) (shared_own id e live is)
        ∙ ap (λ (n : ℕ). n + 1) (sym (sharers_of live id (Some e) is)))
    | inr apart ↦ rw apart (same_sharers live (shared id live) other
        (shared_other id live other (eqb-false id other apart)) ∙ omega arith)
  ];
  kept = λ other was. elim (cases_Bool (eqb id other)) [
    | inl same ↦ rw (← eqb-true id other same) (bytes_of (shared id live) id (Some (more e)) (shared_own id e live is)
        ∙ sym (bytes_of live id (Some e) is))
    | inr apart ↦ same_bytes live (shared id live) other (shared_other id live other (eqb-false id other apart))
  ];
  live = ap is_some (shared_own id e live is);
  own = bytes_of (shared id live) id (Some (more e)) (shared_own id e live is);
}

-- bytes that are found are those of the id
pub found_added : (live : List Extent) (bytes : List ℕ) (e : Extent) (from blocks : ℕ) → RiseFrom from blocks live
    → with_bytes live bytes ≡ Some e → (extent_of live e.id ≡ Some e) × (e.bytes ≡ bytes)
unfolding with_bytes extent_of
found_added [] bytes e from blocks rise is = absurd (none-some e is)
found_added (x ∷ xs) bytes e from blocks rise is =
    elim (cases_Bool (has_bytes bytes x)) [
      | inl has ↦
          let own : x ≡ e = same_Some x e (rw has at is) in
          rw (← own) (rw (eq-eqb x.id x.id refl) refl, (bytes_eq-Decides x.bytes bytes).0 has)
      | inr lacks ↦
          let rest = found_added xs bytes e (x.id + 1) blocks rise.3 (rw lacks at is) in
          let least : x.id + 1 ≤ e.id = id_above e.id xs e (x.id + 1) blocks rise.3 rest.0 in
          let above : x.id < e.id = omega (arith, least) in
          let apart : eqb x.id e.id ≡ false
          = ne_eqb x.id e.id (λ (same : x.id ≡ e.id). absurd (omega (arith, above, same))) in
          (rw apart rest.0, rest.1)
    ]
  where
    id_above : (id : ℕ) (live : List Extent) (f : Extent) (from blocks : ℕ) → RiseFrom (from) blocks live
        → extent_of live id ≡ Some f → from ≤ id
    id_above id [] f from blocks rise is = absurd (none-some f is)
    id_above id (y ∷ ys) f from blocks rise is =
        elim (cases_Bool (eqb y.id id)) [
          | inl same ↦ let e : y.id ≡ id = eqb-true y.id id same in let least : from ≤ y.id = rise.0
              in omega (arith, e, least)
          | inr other ↦ let rest : y.id + 1 ≤ id = id_above id ys f (y.id + 1) blocks rise.3 (rw other at is)
              in let least : from ≤ y.id = rise.0 in omega (arith, rest, least)
        ]

-- ---- a sharer less

abbrev less : Extent → Extent
less e = record e { sharers = e.sharers - 1 }

abbrev after : Extent → Option Extent
after e = if eqb e.sharers 1 then None else Some (less e)

none_behind : (id : ℕ) (live : List Extent) (from blocks : ℕ) → RiseFrom from blocks live → id < from
    → extent_of live id ≡ None
unfolding extent_of
none_behind id [] from blocks rise lt = refl
none_behind id (x ∷ xs) from blocks rise lt =
    let least : from ≤ x.id = rise.0 in
    let apart : eqb x.id id ≡ false = ne_eqb x.id id (λ (e : x.id ≡ id). absurd (omega (arith, least, lt, e))) in
    rw apart (none_behind id xs (x.id + 1) blocks rise.3 (omega (arith, least, lt)))

given_own : (id : ℕ) (e : Extent) (live : List Extent) (from blocks : ℕ) → RiseFrom from blocks live
    → extent_of live id ≡ Some e → extent_of (given_back id live) id ≡ after e
unfolding extent_of given_back
given_own id e [] from blocks rise is = absurd (none-some e is)
given_own id e (x ∷ xs) from blocks rise is =
    elim (cases_Bool (eqb x.id id)) [
      | inl same ↦
          let own : x ≡ e = same_Some x e (rw same at is) in
          let at : x.id ≡ id = eqb-true x.id id same in
          elim (cases_Bool (eqb x.sharers 1)) [
            | inl last ↦ rw (same, last, ← own, last) (none_behind id xs (x.id + 1) blocks rise.3 (omega (arith, at)))
            | inr several ↦ rw (same, several, same, ← own, several) refl
          ]
      | inr other ↦ rw (other, other) (given_own id e xs (x.id + 1) blocks rise.3 (rw other at is))
    ]

given_other : (id : ℕ) (live : List Extent) (other : ℕ) → (id ≡ other → ⊥) → extent_of (given_back id live) other
    ≡ extent_of live other
unfolding extent_of given_back
given_other id [] other apart = refl
given_other id (x ∷ xs) other apart =
    elim (cases_Bool (eqb x.id id)) [
      | inl same ↦
          let differ : eqb x.id other ≡ false
          = ne_eqb x.id other (λ (e : x.id ≡ other). apart (sym (eqb-true x.id id same) ∙ e)) in
          elim (cases_Bool (eqb x.sharers 1)) [
            | inl last ↦ rw (same, last, differ) refl
            | inr several ↦ rw (same, several, differ) refl
          ]
      | inr differ ↦ rw differ (ap (λ (rest : Option Extent). if eqb x.id other then Some x else rest)
          (given_other id xs other apart))
    ]

some_sharer : (id : ℕ) (e : Extent) (live : List Extent) (from blocks : ℕ) → RiseFrom from blocks live
    → extent_of live id ≡ Some e → 0 < e.sharers
unfolding extent_of
some_sharer id e [] from blocks rise is = absurd (none-some e is)
some_sharer id e (x ∷ xs) from blocks rise is =
    elim (cases_Bool (eqb x.id id)) [
      | inl same ↦ subst (λ (y : Extent). 0 < y.sharers) (same_Some x e (rw same at is)) rise.1
      | inr other ↦ some_sharer id e xs (x.id + 1) blocks rise.3 (rw other at is)
    ]

one_less : (e : Extent) → 0 < e.sharers → option_map_or (λ (x : Extent). x.sharers) (after e) 0 + 1 ≡ e.sharers
one_less e some =
    elim (cases_Bool (eqb e.sharers 1)) [
      | inl last ↦ let one : e.sharers ≡ 1 = eqb-true e.sharers 1 last in rw last (omega (arith, one))
      | inr several ↦ rw several (omega (arith, some))
    ]

pub given_taken : (live : List Extent) (id : ℕ) (e : Extent) (blocks : ℕ) → RiseFrom 0 blocks live → extent_of live id
    ≡ Some e → IsTaken live (given_back id live) id
given_taken live id e blocks rise is = record {
  sharers = λ other. elim (cases_Bool (eqb id other)) [
    | inl same ↦
        let own : id ≡ other = eqb-true id other same in
        rw (same, ← own) (ap (λ (n : ℕ). n + 1)
        (sharers_of (given_back id live) id (after e) (given_own id e live 0 blocks rise is))
        ∙ one_less e (some_sharer id e live 0 blocks rise is) ∙ sym (sharers_of live id (Some e) is))
    | inr apart ↦ rw apart (let same_count = same_sharers live (given_back id live) other
        (given_other id live other (eqb-false id other apart)) in omega (arith, same_count))
  ];
  kept = λ other still. elim (cases_Bool (eqb id other)) [
    | inl same ↦ rw (← eqb-true id other same)
        (own_bytes (subst (λ (k : ℕ). is_live (given_back id live) k ≡ true) (sym (eqb-true id other same)) still))
    | inr apart ↦ same_bytes live (given_back id live) other (given_other id live other (eqb-false id other apart))
  ];
}
  where
    own_bytes : is_live (given_back id live) id ≡ true → bytes_at (given_back id live) id ≡ bytes_at live id
    own_bytes still =
        elim (cases_Bool (eqb e.sharers 1)) [
          | inl last ↦
              let gone : extent_of (given_back id live) id ≡ None = given_own id e live 0 blocks rise is
              ∙ ap (λ (t : Bool). if t then None else Some (less e)) last in
              absurd (both_ways (is_live (given_back id live) id) (ap is_some gone) still)
          | inr several ↦
              let left : extent_of (given_back id live) id ≡ Some (less e) = given_own id e live 0 blocks rise is
              ∙ ap (λ (t : Bool). if t then None else Some (less e)) several in
              bytes_of (given_back id live) id (Some (less e)) left ∙ sym (bytes_of live id (Some e) is)
        ]

-- ---- who has sharers is live

pub shared_live : (live : List Extent) (id : ℕ) → 0 < sharers_at live id → is_live live id ≡ true
shared_live live id some = by_found (extent_of live id) refl
  where
    by_found : (found : Option Extent) → extent_of live id ≡ found → is_some (extent_of live id) ≡ true
    by_found None is = let none : sharers_at live id ≡ 0 = sharers_of live id None is
        in absurd (omega (arith, none, some))
    by_found (Some e) is = ap is_some is

pub live_extent : (live : List Extent) (id : ℕ) → is_live live id ≡ true → (e : Extent) × (extent_of live id ≡ Some e)
live_extent live id is = by_found (extent_of live id) refl is
  where
    by_found : (found : Option Extent) → extent_of live id ≡ found → is_some found ≡ true → (e : Extent)
        × (extent_of live id ≡ Some e)
    by_found None at none = absurd cc
    by_found (Some e) at some = (e, at)
