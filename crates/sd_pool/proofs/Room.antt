-- That nothing is seen of the room that is made for new bytes.
use Rattle.std.proofs.Common.{◌≡◌, ◌⊎◌, inl, inr, ℕ, ◌+◌, ◌-◌, ◌^◌, ◌<◌, ◌≤◌, Bool, true, false, List, [], ◌∷◌, ◌++◌}
use Rattle.std.proofs.Common.{Vec, Global, length, get_or, take, min, refl, ap, sym, subst, ◌∙◌, arith}
use Rattle.std.specs.Prelude.{◌==◌, if◌then◌else◌, nat_lt}
use Rattle.std.specs.Vec.{vec_capacity}
use Rattle.std.proofs.lemmas.Bool.{eqb-true, eq-eqb, ltb-true, ltb-false}
use Rattle.std.proofs.lemmas.List.{length-append, length-take}
use Rattle.sd_pool.specs.declared.slot.Slot.{Slot}
use Rattle.sd_pool.specs.declared.holes.Hole.{Hole}
use Rattle.sd_pool.specs.declared.parts.Parts.{Parts}
use Rattle.sd_pool.specs.Blocks.{Extent}
use Rattle.sd_pool.specs.Pool.{AreApart, AreDistinct}
use Rattle.sd_pool.specs.Slots.{is_used, live_from, AreWithin, AreUsedBelow}
use Rattle.sd_pool.specs.Holes.{AreHoles}
use Rattle.sd_pool.specs.Tallies.{count_of_hash}
use Rattle.sd_pool.specs.Kept.{live_of, pool_of, IsStoredPool, FirstUnused, with_slot}
use Rattle.sd_pool.proofs.Slotted.{push_unused, within-push, used-push, all_used}
use Rattle.sd_pool.proofs.Regions.{live_longer}

free_slot : Slot
free_slot = record { block = 0; len = 0; sharers = 0 }

-- what begins with a list is no shorter
pub front_longer : (old new : List ℕ) → take (length old) new ≡ old → length old ≤ length new
front_longer old new front =
    let short : length (take (length old) new) ≡ min (length old) (length new) = length-take (length old) new in
    let len : length (take (length old) new) ≡ length old = ap length front in
    omega (arith, short, len)

-- the slots are those from before, or one free one more after all that are used
pub SameOrMore : ℕ → List Slot → List Slot → Type 0
SameOrMore id old new = (new ≡ old) ⊎ ((id ≡ length old)
    × (new ≡ old ++ record { block = 0; len = 0; sharers = 0 } ∷ []))

pub same_slots_kept : (id : ℕ) (old : List Slot) → SameOrMore id old old
unfolding SameOrMore
same_slots_kept id old = inl refl

pub with_one : (id : ℕ) (old new : List Slot) → new ≡ with_slot id old → SameOrMore id old new
unfolding SameOrMore with_slot
with_one id old new is = by_test (id == length old) refl is
  where
    by_test : (t : Bool) → (id == length old) ≡ t → new
        ≡ (if t then old ++ record { block = 0; len = 0; sharers = 0 } ∷ [] else old) → (new ≡ old)
        ⊎ ((id ≡ length old) × (new ≡ old ++ record { block = 0; len = 0; sharers = 0 } ∷ []))
    by_test true last is = inr (eqb-true id (length old) last, is)
    by_test false before is = inl is

-- what changes while room is made
pub record IsRoomier (old : Parts) (region : Vec ℕ Global) (slots : Vec Slot Global) (holes : Vec Hole Global)
    (id : ℕ) : Type 0 where
  pub kept : IsStoredPool old
  pub few : old.live < 2 ^ 32 - 1
  pub front : take (length old.region.items) region.items ≡ old.region.items
  pub longer : length old.region.items ≤ length region.items
  pub id_is : FirstUnused old.slots.items id
  pub slots_are : SameOrMore id old.slots.items slots.items
  pub holes_are : holes.items ≡ old.holes.items
  pub room : vec_capacity old.holes ≤ vec_capacity holes

module _ (old : Parts) (region : Vec ℕ Global) (slots : Vec Slot Global) (holes : Vec Hole Global) (id : ℕ)
    (r : IsRoomier old region slots holes id) where
  -- a slot is missing only where fewer ids than there may be are used
  few_slots : id ≡ length old.slots.items → length old.slots.items < 2 ^ 32 - 1
  few_slots last =
      let used : AreUsedBelow (length old.slots.items) old.slots.items
      = subst (λ (n : ℕ). AreUsedBelow n old.slots.items) last r.id_is.below in
      let all : length (live_of old) ≡ length old.slots.items = all_used 0 old.region.items old.slots.items used in
      omega (arith, all, r.kept.laid.count, r.few)

  same_slots : live_from 0 region.items slots.items ≡ live_from 0 region.items old.slots.items
  unfolding SameOrMore
  same_slots = by_case r.slots_are
    where
      by_case : (slots.items ≡ old.slots.items)
          ⊎ ((id ≡ length old.slots.items)
          × (slots.items ≡ old.slots.items ++ record { block = 0; len = 0; sharers = 0 } ∷ []))
          → live_from 0 region.items slots.items ≡ live_from 0 region.items old.slots.items
      by_case (inl is) = ap (live_from 0 region.items) is
      by_case (inr more) = ap (live_from 0 region.items) more.1 ∙ push_unused 0 region.items old.slots.items
          (record { block = 0; len = 0; sharers = 0 }) refl

  pub same_live : live_from 0 region.items slots.items ≡ live_of old
  same_live = same_slots ∙ live_longer 0 old.blocks old.region.items region.items old.slots.items r.kept.laid.region
      r.front r.kept.laid.within

  pub still_within : AreWithin old.blocks slots.items
  unfolding SameOrMore
  still_within = by_case r.slots_are
    where
      by_case : (slots.items ≡ old.slots.items)
          ⊎ ((id ≡ length old.slots.items)
          × (slots.items ≡ old.slots.items ++ record { block = 0; len = 0; sharers = 0 } ∷ []))
          → AreWithin old.blocks slots.items
      by_case (inl is) = subst (AreWithin old.blocks) (sym is) r.kept.laid.within
      by_case (inr more) = subst (AreWithin old.blocks) (sym more.1)
          (within-push old.blocks old.slots.items (record { block = 0; len = 0; sharers = 0 }) refl
          r.kept.laid.within)

  pub still_below : AreUsedBelow id slots.items
  unfolding SameOrMore
  still_below = by_case r.slots_are
    where
      by_case : (slots.items ≡ old.slots.items)
          ⊎ ((id ≡ length old.slots.items)
          × (slots.items ≡ old.slots.items ++ record { block = 0; len = 0; sharers = 0 } ∷ []))
          → AreUsedBelow id slots.items
      by_case (inl is) = subst (AreUsedBelow id) (sym is) r.id_is.below
      by_case (inr more) = subst (AreUsedBelow id) (sym more.1)
          (used-push id old.slots.items (record { block = 0; len = 0; sharers = 0 }) r.id_is.below)

  pub still_few : length slots.items ≤ 2 ^ 32 - 1
  unfolding SameOrMore
  still_few = by_case r.slots_are
    where
      by_case : (slots.items ≡ old.slots.items)
          ⊎ ((id ≡ length old.slots.items)
          × (slots.items ≡ old.slots.items ++ record { block = 0; len = 0; sharers = 0 } ∷ [])) → length slots.items
          ≤ 2 ^ 32 - 1
      by_case (inl is) = subst (λ (n : ℕ). n ≤ 2 ^ 32 - 1) (sym (ap length is)) r.kept.laid.ids
      by_case (inr more) =
          let one : length (old.slots.items ++ record { block = 0; len = 0; sharers = 0 } ∷ [])
          ≡ length old.slots.items + 1 = length-append old.slots.items
          (record { block = 0; len = 0; sharers = 0 } ∷ []) in
          let lt : length old.slots.items < 2 ^ 32 - 1 = few_slots more.0 in
          subst (λ (n : ℕ). n ≤ 2 ^ 32 - 1) (sym (ap length more.1)) (omega (arith, one, lt))

  pub still_kept : IsStoredPool (record old { region = region; slots = slots; lowest = id; holes = holes })
  still_kept = record {
    laid = record {
      region = omega (arith, r.longer, r.kept.laid.region);
      within = still_within;
      apart = subst AreApart (sym same_live) r.kept.laid.apart;
      distinct = subst AreDistinct (sym same_live) r.kept.laid.distinct;
      lowest = still_below;
      ids = still_few;
      count = r.kept.laid.count ∙ ap length (sym same_live);
      holes = subst (λ (es : List Extent). AreHoles holes.items es old.blocks) (sym same_live)
          (subst (λ (hs : List Hole). AreHoles hs (live_of old) old.blocks) (sym r.holes_are) r.kept.laid.holes);
      room = (let same_len : length holes.items ≡ length old.holes.items = ap length r.holes_are
          in omega (arith, same_len, r.room, r.kept.laid.room));
    };
    tallied = λ h. r.kept.tallied h ∙ ap (count_of_hash h) (sym same_live);
  }

  pub still_pool : pool_of (record old { region = region; slots = slots; lowest = id; holes = holes }) ≡ pool_of old
  still_pool = ap (λ (es : List Extent). record { live = es; blocks = old.blocks }) same_live

-- with the slot there, the id is a free one's
module _ (old : Parts) (slots : List Slot) (id : ℕ) (id_is : FirstUnused old.slots.items id)
    (is : slots ≡ with_slot id old.slots.items) where
  at_end : (xs : List Slot) (x d : Slot) → get_or (xs ++ x ∷ []) (length xs) d ≡ x
  at_end [] x d = refl
  at_end (y ∷ xs) x d = at_end xs x d

  pub there : id < length slots
  unfolding with_slot
  there = by_test (id == length old.slots.items) refl is
    where
      by_test : (t : Bool) → (id == length old.slots.items) ≡ t → slots
          ≡ (if t then old.slots.items ++ record { block = 0; len = 0; sharers = 0 } ∷ [] else old.slots.items) → id
          < length slots
      by_test true last is =
          let one : length slots ≡ length old.slots.items + 1 = ap length is ∙ length-append old.slots.items
          (record { block = 0; len = 0; sharers = 0 } ∷ []) in
          let at : id ≡ length old.slots.items = eqb-true id (length old.slots.items) last in
          omega arith
      by_test false before is =
          let len : length slots ≡ length old.slots.items = ap length is in
          let le : id ≤ length old.slots.items = id_is.within in
          by_lt (nat_lt id (length old.slots.items)) refl
        where
          by_lt : (t : Bool) → nat_lt id (length old.slots.items) ≡ t → id < length slots
          by_lt true lt = let h : id < length old.slots.items = ltb-true id (length old.slots.items) lt
              in let len : length slots ≡ length old.slots.items = ap length is in omega arith
          by_lt false ge = let h : length old.slots.items ≤ id = ltb-false id (length old.slots.items) ge
              in let le : id ≤ length old.slots.items = id_is.within in let same_is : id ≡ length old.slots.items
              = omega arith in let wrong : true ≡ false = sym (eq-eqb id (length old.slots.items) same_is) ∙ before
              in absurd (cc)

  pub still_free : (d : Slot) → is_used (get_or slots id d) ≡ false
  unfolding with_slot
  still_free d = by_test (id == length old.slots.items) refl is
    where
      by_test : (t : Bool) → (id == length old.slots.items) ≡ t → slots
          ≡ (if t then old.slots.items ++ record { block = 0; len = 0; sharers = 0 } ∷ [] else old.slots.items)
          → is_used (get_or slots id d) ≡ false
      by_test true last is =
          ap (λ (xs : List Slot). is_used (get_or xs id d)) is
          ∙ ap (λ (n : ℕ). is_used (get_or (old.slots.items ++ record { block = 0; len = 0; sharers = 0 } ∷ []) n d))
          (eqb-true id (length old.slots.items) last)
          ∙ ap is_used (at_end old.slots.items (record { block = 0; len = 0; sharers = 0 }) d)
      by_test false before is =
          let here : id < length slots = there in
          let len : length slots ≡ length old.slots.items = ap length is in
          ap (λ (xs : List Slot). is_used (get_or xs id d)) is ∙ id_is.unused d (omega (arith, here, len))
