-- Slots, the live ids that they represent, and what a change of a slot does to these.
use Rattle.std.proofs.Common.{◌≡◌, ◌⊎◌, inl, inr, ℕ, zero, suc, ◌+◌, ◌*◌, ◌-◌, ◌<◌, ◌≤◌, Bool, true, false, not, cond}
use Rattle.std.proofs.Common.{Option, None, Some, List, [], ◌∷◌, ◌++◌, length, get_or, set, drop, refl, ap, sym}
use Rattle.std.proofs.Common.{subst, ◌∙◌, arith}
use Rattle.std.specs.Prelude.{nat_lt, ◌==◌, if◌then◌else◌, is_some}
use Rattle.std.proofs.lemmas.Bool.{ltb-true, ltb-false, lt-ltb, le-ltb, eq-eqb, ne_eqb, or_cases}
use Rattle.std.proofs.lemmas.List.{length-take-le, length-drop}
use Rattle.std.proofs.lemmas.Slice.Eq.{bytes_eq-Decides}
use Rattle.sd_pool.specs.declared.slot.Slot.{Slot}
use Rattle.sd_pool.specs.Blocks.{blocks_for, Extent, covers, covered}
use Rattle.sd_pool.specs.Pool.{has_bytes, extent_of, is_live, with_bytes, inserted, AreDistinct, RiseFrom}
use Rattle.sd_pool.specs.Slots.{is_used, bytes_of, extent_in, live_from, IsWithin, AreWithin, AreUsedBelow, dropped}
use Rattle.sd_pool.specs.Slots.{with_sharers}
use Rattle.sd_pool.proofs.HoleLaws.{false_if}
use Rattle.sd_pool.proofs.HolesKept.{AreInside}
use Rattle.sd_pool.proofs.Covering.{covers_parts, none_from}

-- ---- lengths

pub len_fits : (len : ℕ) → len ≤ 64 * blocks_for len
unfolding blocks_for
len_fits len = omega arith

pub bytes_length : (region : List ℕ) (slot : Slot) (blocks : ℕ) → 64 * blocks ≤ length region → slot.block
    + blocks_for slot.len ≤ blocks → length (bytes_of region slot) ≡ slot.len
bytes_length region slot blocks long within =
    let fits : slot.len ≤ 64 * blocks_for slot.len = len_fits slot.len in
    let rest : length (drop (64 * slot.block) region) ≡ length region - 64 * slot.block
    = length-drop (64 * slot.block) region in
    length-take-le slot.len (drop (64 * slot.block) region) (omega (arith, fits, rest))

-- ---- finding an id

same_id : (id k : ℕ) → id ≡ k → (k == id) ≡ true
same_id id k h = eq-eqb k id (sym h)

other_id : (id k : ℕ) → k < id → (k == id) ≡ false
other_id id k lt = ne_eqb k id (λ same. omega arith)

pub none_below : (id k : ℕ) (region : List ℕ) (slots : List Slot) → id < k → extent_of (live_from k region slots) id
    ≡ None
unfolding extent_of live_from
none_below id k region [] lt = refl
none_below id k region (slot ∷ slots) lt = by_used (is_used slot) (none_below id (k + 1) region slots (omega arith))
  where
    by_used : (t : Bool) → extent_of (live_from (k + 1) region slots) id ≡ None
        → extent_of (if t then extent_in region k slot ∷ live_from (k + 1) region slots else live_from (k + 1) region
        slots) id ≡ None
    by_used true rest = ap (λ (b : Bool). cond b (Some (extent_in region k slot))
        (extent_of (live_from (k + 1) region slots) id)) (ne_eqb k id (λ same. omega arith)) ∙ rest
    by_used false rest = rest

pub none_past : (id k i : ℕ) (region : List ℕ) (slots : List Slot) → id ≡ k + i → length slots ≤ i
    → extent_of (live_from k region slots) id ≡ None
unfolding extent_of live_from
none_past id k i region [] is past = refl
none_past id k zero region (slot ∷ slots) is past = absurd (omega arith)
none_past id k (suc i) region (slot ∷ slots) is past =
    let next : id ≡ (k + 1) + i = omega arith in
    by_used (is_used slot) (none_past id (k + 1) i region slots next (omega arith))
  where
    by_used : (t : Bool) → extent_of (live_from (k + 1) region slots) id ≡ None
        → extent_of (if t then extent_in region k slot ∷ live_from (k + 1) region slots else live_from (k + 1) region
        slots) id ≡ None
    by_used true rest = ap (λ (b : Bool). cond b (Some (extent_in region k slot))
        (extent_of (live_from (k + 1) region slots) id)) (other_id id k (omega arith)) ∙ rest
    by_used false rest = rest

-- what is found at the id of a slot
pub found_at : (id k i : ℕ) (region : List ℕ) (slots : List Slot) (d : Slot) → id ≡ k + i → i < length slots
    → is_used (get_or slots i d) ≡ true → extent_of (live_from k region slots) id
    ≡ Some (extent_in region id (get_or slots i d))
unfolding extent_of live_from
found_at id k i region [] d is lt used = absurd (omega arith)
found_at id k zero region (slot ∷ slots) d is lt used =
    let here : id ≡ k = omega arith in
    ap (λ (t : Bool). extent_of (if t then extent_in region k slot ∷ live_from (k + 1) region slots
    else live_from (k + 1) region slots) id) used
    ∙ ap (λ (b : Bool). cond b (Some (extent_in region k slot)) (extent_of (live_from (k + 1) region slots) id))
    (same_id id k here)
    ∙ ap (λ (n : ℕ). Some (extent_in region n slot)) (sym here)
found_at id k (suc i) region (slot ∷ slots) d is lt used =
    let next : id ≡ (k + 1) + i = omega arith in
    by_used (is_used slot) (found_at id (k + 1) i region slots d next (omega arith) used)
  where
    by_used : (t : Bool) → extent_of (live_from (k + 1) region slots) id
        ≡ Some (extent_in region id (get_or slots i d))
        → extent_of (if t then extent_in region k slot ∷ live_from (k + 1) region slots else live_from (k + 1) region
        slots) id ≡ Some (extent_in region id (get_or slots i d))
    by_used true rest = ap (λ (b : Bool). cond b (Some (extent_in region k slot))
        (extent_of (live_from (k + 1) region slots) id)) (other_id id k (omega arith)) ∙ rest
    by_used false rest = rest

pub none_at : (id k i : ℕ) (region : List ℕ) (slots : List Slot) (d : Slot) → id ≡ k + i → i < length slots
    → is_used (get_or slots i d) ≡ false → extent_of (live_from k region slots) id ≡ None
unfolding extent_of live_from
none_at id k i region [] d is lt unused = absurd (omega arith)
none_at id k zero region (slot ∷ slots) d is lt unused =
    ap (λ (t : Bool). extent_of (if t then extent_in region k slot ∷ live_from (k + 1) region slots
    else live_from (k + 1) region slots) id) unused
    ∙ none_below id (k + 1) region slots (omega arith)
none_at id k (suc i) region (slot ∷ slots) d is lt unused =
    let next : id ≡ (k + 1) + i = omega arith in
    by_used (is_used slot) (none_at id (k + 1) i region slots d next (omega arith) unused)
  where
    by_used : (t : Bool) → extent_of (live_from (k + 1) region slots) id ≡ None
        → extent_of (if t then extent_in region k slot ∷ live_from (k + 1) region slots else live_from (k + 1) region
        slots) id ≡ None
    by_used true rest = ap (λ (b : Bool). cond b (Some (extent_in region k slot))
        (extent_of (live_from (k + 1) region slots) id)) (other_id id k (omega arith)) ∙ rest
    by_used false rest = rest

-- the slot of an id that is live
pub slot_within : (id : ℕ) (region : List ℕ) (slots : List Slot) → is_live (live_from 0 region slots) id ≡ true → id
    < length slots
slot_within id region slots live = by_lt (nat_lt id (length slots)) refl
  where
    by_lt : (t : Bool) → nat_lt id (length slots) ≡ t → id < length slots
    by_lt true lt = ltb-true id (length slots) lt
    by_lt false le = let none = none_past id 0 id region slots (omega arith) (ltb-false id (length slots) le)
        in let wrong : true ≡ false = sym live ∙ ap is_some none in absurd (cc)

pub slot_used : (id : ℕ) (region : List ℕ) (slots : List Slot) (d : Slot) → is_live (live_from 0 region slots) id
    ≡ true → is_used (get_or slots id d) ≡ true
slot_used id region slots d live = by_used (is_used (get_or slots id d)) refl
  where
    by_used : (t : Bool) → is_used (get_or slots id d) ≡ t → is_used (get_or slots id d) ≡ true
    by_used true h = h
    by_used false h = let none = none_at id 0 id region slots d (omega arith) (slot_within id region slots live) h
        in let wrong : true ≡ false = sym live ∙ ap is_some none in absurd (cc)

pub slot_found : (id : ℕ) (region : List ℕ) (slots : List Slot) (d : Slot) → is_live (live_from 0 region slots) id
    ≡ true → extent_of (live_from 0 region slots) id ≡ Some (extent_in region id (get_or slots id d))
slot_found id region slots d live = found_at id 0 id region slots d (omega arith) (slot_within id region slots live)
    (slot_used id region slots d live)

-- ---- a slot changes

inserted_first : (e : Extent) (k : ℕ) (region : List ℕ) (slots : List Slot) → e.id < k
    → inserted e (live_from k region slots) ≡ e ∷ live_from k region slots
unfolding inserted live_from
inserted_first e k region [] lt = refl
inserted_first e k region (slot ∷ slots) lt
    = by_used (is_used slot) (inserted_first e (k + 1) region slots (omega arith))
  where
    by_used : (t : Bool) → inserted e (live_from (k + 1) region slots) ≡ e ∷ live_from (k + 1) region slots
        → inserted e (if t then extent_in region k slot ∷ live_from (k + 1) region slots else live_from (k + 1) region
        slots) ≡ e ∷ (if t then extent_in region k slot ∷ live_from (k + 1) region slots
        else live_from (k + 1) region slots)
    by_used true rest = ap (λ (b : Bool). if b then e ∷ extent_in region k slot ∷ live_from (k + 1) region slots
        else extent_in region k slot ∷ inserted e (live_from (k + 1) region slots)) (lt-ltb e.id k lt)
    by_used false rest = rest

pub set_inserted : (id k i : ℕ) (region : List ℕ) (slots : List Slot) (d new : Slot) → id ≡ k + i → i < length slots
    → is_used (get_or slots i d) ≡ false → is_used new ≡ true → live_from k region (set slots i new)
    ≡ inserted (extent_in region id new) (live_from k region slots)
unfolding live_from inserted
set_inserted id k i region [] d new is lt unused used = absurd (omega arith)
set_inserted id k zero region (slot ∷ slots) d new is lt unused used =
    let here : id ≡ k = omega arith in
    ap (λ (t : Bool). if t then extent_in region k new ∷ live_from (k + 1) region slots else live_from (k + 1) region
    slots) used
    ∙ ap (λ (n : ℕ). extent_in region n new ∷ live_from (k + 1) region slots) (sym here)
    ∙ sym (inserted_first (extent_in region id new) (k + 1) region slots (omega arith))
    ∙ ap (λ (t : Bool). inserted (extent_in region id new)
    (if t then extent_in region k slot ∷ live_from (k + 1) region slots else live_from (k + 1) region slots))
    (sym unused)
set_inserted id k (suc i) region (slot ∷ slots) d new is lt unused used =
    let next : id ≡ (k + 1) + i = omega arith in
    by_used (is_used slot) (set_inserted id (k + 1) i region slots d new next (omega arith) unused used)
  where
    by_used : (t : Bool) → live_from (k + 1) region (set slots i new) ≡ inserted (extent_in region id new)
        (live_from (k + 1) region slots)
        → (if t then extent_in region k slot ∷ live_from (k + 1) region (set slots i new)
        else live_from (k + 1) region (set slots i new)) ≡ inserted (extent_in region id new)
        (if t then extent_in region k slot ∷ live_from (k + 1) region slots else live_from (k + 1) region slots)
    by_used true rest =
        ap (λ (es : List Extent). extent_in region k slot ∷ es) rest
        ∙ sym (ap (λ (b : Bool). if b then extent_in region id new ∷ extent_in region k slot
        ∷ live_from (k + 1) region slots else extent_in region k slot ∷ inserted (extent_in region id new)
        (live_from (k + 1) region slots)) (le-ltb id k (omega arith)))
    by_used false rest = rest

pub set_sharers : (id k i n : ℕ) (region : List ℕ) (slots : List Slot) (d : Slot) → id ≡ k + i → i < length slots
    → is_used (get_or slots i d) ≡ true → not (n == 0) ≡ true
    → live_from k region (set slots i (record (get_or slots i d) { sharers = n }))
    ≡ with_sharers id n (live_from k region slots)
unfolding live_from with_sharers
set_sharers id k i n region [] d is lt used some = absurd (omega arith)
set_sharers id k zero n region (slot ∷ slots) d is lt used some =
    let here : id ≡ k = omega arith in
    ap (λ (t : Bool). if t then extent_in region k (record slot { sharers = n }) ∷ live_from (k + 1) region slots
    else live_from (k + 1) region slots) some
    ∙ sym (ap (λ (b : Bool). if b then record (extent_in region k slot) { sharers = n } ∷ live_from (k + 1) region
    slots else extent_in region k slot ∷ with_sharers id n (live_from (k + 1) region slots)) (same_id id k here))
    ∙ ap (λ (t : Bool). with_sharers id n (if t then extent_in region k slot ∷ live_from (k + 1) region slots
    else live_from (k + 1) region slots)) (sym used)
set_sharers id k (suc i) n region (slot ∷ slots) d is lt used some =
    let next : id ≡ (k + 1) + i = omega arith in
    by_used (is_used slot) (set_sharers id (k + 1) i n region slots d next (omega arith) used some)
  where
    later : List Slot
    later = set slots i (record (get_or slots i d) { sharers = n })

    by_used : (t : Bool) → live_from (k + 1) region later ≡ with_sharers id n (live_from (k + 1) region slots)
        → (if t then extent_in region k slot ∷ live_from (k + 1) region later else live_from (k + 1) region later)
        ≡ with_sharers id n (if t then extent_in region k slot ∷ live_from (k + 1) region slots
        else live_from (k + 1) region slots)
    by_used true rest =
        ap (λ (es : List Extent). extent_in region k slot ∷ es) rest
        ∙ sym (ap (λ (b : Bool). if b then record (extent_in region k slot) { sharers = n } ∷ live_from (k + 1) region
        slots else extent_in region k slot ∷ with_sharers id n (live_from (k + 1) region slots))
        (other_id id k (omega arith)))
    by_used false rest = rest

dropped_none : (id k : ℕ) (region : List ℕ) (slots : List Slot) → id < k → dropped id (live_from k region slots)
    ≡ live_from k region slots
unfolding live_from dropped
dropped_none id k region [] lt = refl
dropped_none id k region (slot ∷ slots) lt = by_used (is_used slot) (dropped_none id (k + 1) region slots (omega arith))
  where
    by_used : (t : Bool) → dropped id (live_from (k + 1) region slots) ≡ live_from (k + 1) region slots
        → dropped id (if t then extent_in region k slot ∷ live_from (k + 1) region slots else live_from (k + 1) region
        slots) ≡ (if t then extent_in region k slot ∷ live_from (k + 1) region slots else live_from (k + 1) region
        slots)
    by_used true rest = ap (λ (b : Bool). if b then live_from (k + 1) region slots else extent_in region k slot
        ∷ dropped id (live_from (k + 1) region slots)) (ne_eqb k id (λ same. omega arith))
        ∙ ap (λ (es : List Extent). extent_in region k slot ∷ es) rest
    by_used false rest = rest

pub set_dropped : (id k i : ℕ) (region : List ℕ) (slots : List Slot) (d new : Slot) → id ≡ k + i → i < length slots
    → is_used (get_or slots i d) ≡ true → is_used new ≡ false → live_from k region (set slots i new)
    ≡ dropped id (live_from k region slots)
unfolding live_from dropped
set_dropped id k i region [] d new is lt used unused = absurd (omega arith)
set_dropped id k zero region (slot ∷ slots) d new is lt used unused =
    let here : id ≡ k = omega arith in
    ap (λ (t : Bool). if t then extent_in region k new ∷ live_from (k + 1) region slots else live_from (k + 1) region
    slots) unused
    ∙ sym (ap (λ (b : Bool). if b then live_from (k + 1) region slots else extent_in region k slot
    ∷ dropped id (live_from (k + 1) region slots)) (same_id id k here))
    ∙ ap (λ (t : Bool). dropped id (if t then extent_in region k slot ∷ live_from (k + 1) region slots
    else live_from (k + 1) region slots)) (sym used)
set_dropped id k (suc i) region (slot ∷ slots) d new is lt used unused =
    let next : id ≡ (k + 1) + i = omega arith in
    by_used (is_used slot) (set_dropped id (k + 1) i region slots d new next (omega arith) used unused)
  where
    by_used : (t : Bool) → live_from (k + 1) region (set slots i new) ≡ dropped id (live_from (k + 1) region slots)
        → (if t then extent_in region k slot ∷ live_from (k + 1) region (set slots i new)
        else live_from (k + 1) region (set slots i new))
        ≡ dropped id (if t then extent_in region k slot ∷ live_from (k + 1) region slots
        else live_from (k + 1) region slots)
    by_used true rest =
        ap (λ (es : List Extent). extent_in region k slot ∷ es) rest
        ∙ sym (ap (λ (b : Bool). if b then live_from (k + 1) region slots else extent_in region k slot
        ∷ dropped id (live_from (k + 1) region slots)) (other_id id k (omega arith)))
    by_used false rest = rest

pub push_unused : (k : ℕ) (region : List ℕ) (slots : List Slot) (new : Slot) → is_used new ≡ false
    → live_from k region (slots ++ new ∷ []) ≡ live_from k region slots
unfolding live_from
push_unused k region [] new unused = ap (λ (t : Bool). if t then extent_in region k new ∷ [] else []) unused
push_unused k region (slot ∷ slots) new unused
    = ap (λ (es : List Extent). if is_used slot then extent_in region k slot ∷ es else es)
    (push_unused (k + 1) region slots new unused)

-- ---- where bytes lie

pub within_at : (blocks i : ℕ) (slots : List Slot) (d : Slot) → AreWithin blocks slots → i < length slots
    → IsWithin blocks (get_or slots i d)
within_at blocks i [] d within lt = absurd (omega arith)
within_at blocks zero (slot ∷ slots) d within lt = within.0
within_at blocks (suc i) (slot ∷ slots) d within lt = within_at blocks i slots d within.1 (omega arith)

pub within-set : (blocks i : ℕ) (slots : List Slot) (new : Slot) → AreWithin blocks slots → IsWithin blocks new
    → AreWithin blocks (set slots i new)
within-set blocks i [] new within h = tt
within-set blocks zero (slot ∷ slots) new within h = (h, within.1)
within-set blocks (suc i) (slot ∷ slots) new within h = (within.0, within-set blocks i slots new within.1 h)

pub within-wider : (blocks longer : ℕ) (slots : List Slot) → blocks ≤ longer → AreWithin blocks slots
    → AreWithin longer slots
within-wider blocks longer [] le within = tt
within-wider blocks longer (slot ∷ slots) le within
    = (
      (λ used. let h : slot.block + blocks_for slot.len ≤ blocks = within.0 used in omega arith),
      within-wider blocks
          longer slots le within.1,
    )

pub within-push : (blocks : ℕ) (slots : List Slot) (new : Slot) → is_used new ≡ false → AreWithin blocks slots
    → AreWithin blocks (slots ++ new ∷ [])
within-push blocks [] new unused within = ((λ used. let wrong : true ≡ false = sym used ∙ unused in absurd (cc)), tt)
within-push blocks (slot ∷ slots) new unused within = (within.0, within-push blocks slots new unused within.1)

-- ---- ids that are used

pub used_at : (n i : ℕ) (slots : List Slot) (d : Slot) → AreUsedBelow n slots → i < n → is_used (get_or slots i d)
    ≡ true
used_at zero i slots d used lt = absurd (omega arith)
used_at (suc n) i [] d used lt = absurd used
used_at (suc n) zero (slot ∷ slots) d used lt = used.0
used_at (suc n) (suc i) (slot ∷ slots) d used lt = used_at n i slots d used.1 (omega arith)

pub used-set : (n i : ℕ) (slots : List Slot) (new : Slot) → is_used new ≡ true → AreUsedBelow n slots
    → AreUsedBelow n (set slots i new)
used-set zero i slots new h used = tt
used-set (suc n) i [] new h used = absurd used
used-set (suc n) zero (slot ∷ slots) new h used = (h, used.1)
used-set (suc n) (suc i) (slot ∷ slots) new h used = (used.0, used-set n i slots new h used.1)

-- up to the slot that changes
pub used-less : (n m i : ℕ) (slots : List Slot) (new : Slot) → m ≤ n → m ≤ i → AreUsedBelow n slots
    → AreUsedBelow m (set slots i new)
used-less n zero i slots new low at used = tt
used-less zero (suc m) i slots new low at used = absurd (omega arith)
used-less (suc n) (suc m) i [] new low at used = absurd used
used-less (suc n) (suc m) zero (slot ∷ slots) new low at used = absurd (omega arith)
used-less (suc n) (suc m) (suc i) (slot ∷ slots) new low at used
    = (used.0, used-less n m i slots new (omega arith) (omega arith) used.1)

pub used-push : (n : ℕ) (slots : List Slot) (new : Slot) → AreUsedBelow n slots → AreUsedBelow n (slots ++ new ∷ [])
used-push zero slots new used = tt
used-push (suc n) [] new used = absurd used
used-push (suc n) (slot ∷ slots) new used = (used.0, used-push n slots new used.1)

pub used_more : (n : ℕ) (slots : List Slot) (d : Slot) → n < length slots → is_used (get_or slots n d) ≡ true
    → AreUsedBelow n slots → AreUsedBelow (n + 1) slots
used_more n slots d lt here used = let same : suc n ≡ n + 1 = omega arith in subst (λ (m : ℕ). AreUsedBelow m slots)
    same (one_more n slots lt here used)
  where
    one_more : (n : ℕ) (slots : List Slot) → n < length slots → is_used (get_or slots n d) ≡ true
        → AreUsedBelow n slots → AreUsedBelow (suc n) slots
    one_more zero [] lt here used = absurd (omega arith)
    one_more (suc n) [] lt here used = absurd (omega arith)
    one_more zero (slot ∷ slots) lt here used = (here, tt)
    one_more (suc n) (slot ∷ slots) lt here used = (used.0, one_more n slots (omega arith) here used.1)

-- all slots are used
pub all_used : (k : ℕ) (region : List ℕ) (slots : List Slot) → AreUsedBelow (length slots) slots
    → length (live_from k region slots) ≡ length slots
unfolding live_from
all_used k region [] used = refl
all_used k region (slot ∷ slots) used = ap
    (λ (t : Bool). length (if t then extent_in region k slot ∷ live_from (k + 1) region slots
    else live_from (k + 1) region slots)) used.0 ∙ ap suc (all_used (k + 1) region slots used.1)

-- ---- the facts of a pool

pub are_inside : (k blocks : ℕ) (region : List ℕ) (slots : List Slot) → 64 * blocks ≤ length region
    → AreWithin blocks slots → AreInside blocks (live_from k region slots)
unfolding live_from covered
are_inside k blocks region [] long within block h = absurd (cc)
are_inside k blocks region (slot ∷ slots) long within block h = by_used (is_used slot) refl h
    (are_inside (k + 1) blocks region slots long within.1 block)
  where
    by_used : (t : Bool) → is_used slot ≡ t
        → covered (if t then extent_in region k slot ∷ live_from (k + 1) region slots else live_from (k + 1) region
        slots) block ≡ true → (covered (live_from (k + 1) region slots) block ≡ true → block < blocks) → block
        < blocks
    by_used true used h rest = by_case (or_cases (covers (extent_in region k slot) block)
        (covered (live_from (k + 1) region slots) block) h)
      where
        by_case : ((covers (extent_in region k slot) block ≡ true)
            ⊎ (covered (live_from (k + 1) region slots) block ≡ true)) → block < blocks
        by_case (inl here) =
            let p = covers_parts (extent_in region k slot) block here in
            let fits : slot.block + blocks_for slot.len ≤ blocks = within.0 used in
            let high : block < slot.block + blocks_for slot.len = subst (λ (n : ℕ). block < slot.block + blocks_for n)
            (bytes_length region slot blocks long fits) p.1 in
            omega arith
        by_case (inr later) = rest later
    by_used false unused h rest = rest h

rise_lower : (k blocks : ℕ) (live : List Extent) → RiseFrom (k + 1) blocks live → RiseFrom k blocks live
rise_lower k blocks [] rise = tt
rise_lower k blocks (e ∷ es) rise = let low : k + 1 ≤ e.id = rise.0 in (omega arith, rise.1, rise.2, rise.3)

some_sharers : (slot : Slot) → is_used slot ≡ true → 0 < slot.sharers
some_sharers slot used = by_lt (nat_lt 0 slot.sharers) refl
  where
    by_lt : (t : Bool) → nat_lt 0 slot.sharers ≡ t → 0 < slot.sharers
    by_lt true lt = ltb-true 0 slot.sharers lt
    by_lt false le = let none : slot.sharers ≤ 0 = ltb-false 0 slot.sharers le in let zero_is : slot.sharers ≡ 0
        = omega arith in let wrong : true ≡ false = sym used ∙ ap not (eq-eqb slot.sharers 0 zero_is) in absurd (cc)

pub are_rising : (k blocks : ℕ) (region : List ℕ) (slots : List Slot) → 64 * blocks ≤ length region
    → AreWithin blocks slots → RiseFrom k blocks (live_from k region slots)
unfolding live_from
are_rising k blocks region [] long within = tt
are_rising k blocks region (slot ∷ slots) long within = by_used (is_used slot) refl
    (are_rising (k + 1) blocks region slots long within.1)
  where
    by_used : (t : Bool) → is_used slot ≡ t → RiseFrom (k + 1) blocks (live_from (k + 1) region slots)
        → RiseFrom k blocks (if t then extent_in region k slot ∷ live_from (k + 1) region slots
        else live_from (k + 1) region slots)
    by_used true used rest =
        let fits : slot.block + blocks_for slot.len ≤ blocks = within.0 used in
        let same : k ≤ k = omega arith in (
          same,
          some_sharers slot used,
          subst (λ (n : ℕ). slot.block + blocks_for n ≤ blocks)
              (sym (bytes_length region slot blocks long fits)) fits,
          rest,
        )
    by_used false unused rest = rise_lower k blocks (live_from (k + 1) region slots) rest

-- ---- bytes that are looked for

pub held : (id k i : ℕ) (region : List ℕ) (slots : List Slot) (d : Slot) (bytes : List ℕ) → id ≡ k + i
    → AreDistinct (live_from k region slots) → i < length slots → is_used (get_or slots i d) ≡ true
    → bytes_of region (get_or slots i d) ≡ bytes → with_bytes (live_from k region slots) bytes
    ≡ Some (extent_in region id (get_or slots i d))
unfolding live_from with_bytes
held id k i region [] d bytes is distinct lt used has = absurd (omega arith)
held id k zero region (slot ∷ slots) d bytes is distinct lt used has =
    let here : id ≡ k = omega arith in
    ap (λ (t : Bool). with_bytes (if t then extent_in region k slot ∷ live_from (k + 1) region slots
    else live_from (k + 1) region slots) bytes) used
    ∙ ap (λ (b : Bool). cond b (Some (extent_in region k slot)) (with_bytes (live_from (k + 1) region slots) bytes))
    ((bytes_eq-Decides (bytes_of region slot) bytes).1 has)
    ∙ ap (λ (n : ℕ). Some (extent_in region n slot)) (sym here)
held id k (suc i) region (slot ∷ slots) d bytes is distinct lt used has =
    let next : id ≡ (k + 1) + i = omega arith in
    by_used (is_used slot) refl distinct (λ apart. held id (k + 1) i region slots d bytes next apart (omega arith)
    used has)
  where
    found : Option Extent
    found = Some (extent_in region id (get_or slots i d))

    by_used : (t : Bool) → is_used slot ≡ t
        → AreDistinct (if t then extent_in region k slot ∷ live_from (k + 1) region slots
        else live_from (k + 1) region slots)
        → (AreDistinct (live_from (k + 1) region slots) → with_bytes (live_from (k + 1) region slots) bytes ≡ found)
        → with_bytes (if t then extent_in region k slot ∷ live_from (k + 1) region slots else live_from (k + 1) region
        slots) bytes ≡ found
    by_used true first apart rest = ap (λ (b : Bool). cond b (Some (extent_in region k slot))
        (with_bytes (live_from (k + 1) region slots) bytes)) other ∙ rest apart.1
      where
        other : has_bytes bytes (extent_in region k slot) ≡ false
        other = false_if (has_bytes bytes (extent_in region k slot)) (λ same.
            let equal : bytes_of region slot ≡ bytes = (bytes_eq-Decides (bytes_of region slot) bytes).0 same in
            let none : with_bytes (live_from (k + 1) region slots) bytes ≡ None
            = subst (λ (bs : List ℕ). with_bytes (live_from (k + 1) region slots) bs ≡ None) equal apart.0 in
            let wrong : found ≡ None = sym (rest apart.1) ∙ none in absurd (cc))
    by_used false first apart rest = rest apart

pub none_held : (k : ℕ) (region : List ℕ) (slots : List Slot) (d : Slot) (bytes : List ℕ)
    → ((i : ℕ) → i < length slots → is_used (get_or slots i d) ≡ true → bytes_of region (get_or slots i d) ≡ bytes
    → ⊥) → with_bytes (live_from k region slots) bytes ≡ None
unfolding live_from with_bytes
none_held k region [] d bytes none = refl
none_held k region (slot ∷ slots) d bytes none = by_used (is_used slot) refl
    (none_held (k + 1) region slots d bytes (λ i lt. none (suc i) (omega arith)))
  where
    by_used : (t : Bool) → is_used slot ≡ t → with_bytes (live_from (k + 1) region slots) bytes ≡ None
        → with_bytes (if t then extent_in region k slot ∷ live_from (k + 1) region slots else live_from (k + 1) region
        slots) bytes ≡ None
    by_used true used rest = none_from (extent_in region k slot) (live_from (k + 1) region slots) bytes
        (false_if (has_bytes bytes (extent_in region k slot))
        (λ same. none 0 (omega arith) used ((bytes_eq-Decides (bytes_of region slot) bytes).0 same))) rest
    by_used false unused rest = rest
