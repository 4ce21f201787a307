-- That a pool keeps what it has to after each change of its fields.
use Rattle.std.proofs.Common.{◌≡◌, ℕ, suc, ◌+◌, ◌*◌, ◌-◌, ◌^◌, ◌<◌, ◌≤◌, Bool, true, false, not, None, Some, List, []}
use Rattle.std.proofs.Common.{◌∷◌, Vec, Global, length, get_or, set, take, drop, ◌++◌, max, refl, ap, sym, subst, ◌∙◌}
use Rattle.std.proofs.Common.{arith}
use Rattle.std.specs.Ordering.{nat_cmp}
use Rattle.std.specs.Prelude.{◌==◌, if◌then◌else◌, is_some}
use Rattle.std.specs.Vec.{vec_capacity}
use Rattle.std.specs.BTreeMap.{get}
use Rattle.std.proofs.lemmas.Bool.{eq-eqb}
use Rattle.std.proofs.lemmas.List.{length-set, length-append, length-take-le, length-drop}
use Rattle.sd_pool.specs.declared.slot.Slot.{Slot}
use Rattle.sd_pool.specs.declared.holes.Hole.{Hole}
use Rattle.sd_pool.specs.declared.parts.Parts.{Parts}
use Rattle.sd_pool.specs.declared.parts.Spot.{Spot}
use Rattle.sd_pool.specs.Blocks.{blocks_for, Extent, covered, IsLeastRoom}
use Rattle.sd_pool.specs.Pool.{is_live, with_bytes, extent_of, inserted, IsLeastFree, IsPut, AreApart, AreDistinct}
use Rattle.sd_pool.specs.Slots.{is_used, bytes_of, extent_in, live_from, AreWithin, AreUsedBelow, dropped, with_sharers}
use Rattle.sd_pool.specs.Holes.{AreHoles, fit, taken, given}
use Rattle.sd_pool.specs.Tallies.{Tallies, hash, has_hash, count_in, count_of_hash}
use Rattle.sd_pool.specs.Kept.{live_of, pool_of, IsLaid, IsStoredPool, IsHeldAt, IsReady}
use Rattle.sd_pool.proofs.Covering.{size, some_blocks, apart-inserted, distinct-inserted, count-inserted}
use Rattle.sd_pool.proofs.Covering.{length-inserted}
use Rattle.sd_pool.proofs.Sharing.{covered-sharers, apart-sharers, distinct-sharers, count-sharers, length-sharers}
use Rattle.sd_pool.proofs.Sharing.{apart-dropped, distinct-dropped, count-dropped, length-dropped}
use Rattle.sd_pool.proofs.HolesKept.{least_room, holes_taken, holes_given}
use Rattle.sd_pool.proofs.Slotted.{len_fits, bytes_length, found_at, none_at, slot_within, slot_used, slot_found}
use Rattle.sd_pool.proofs.Slotted.{set_inserted, set_sharers, set_dropped, within_at, within-set, within-wider}
use Rattle.sd_pool.proofs.Slotted.{used_at, used-set, used-less, are_inside, held}
use Rattle.sd_pool.proofs.Regions.{written_at, written_there, live_written}

self_id : (id : ℕ) → id ≡ 0 + id
self_id id = omega arith

-- ---- the slot of a live id

pub slot_inside : (old : Parts) (id : ℕ) (slot : Slot) → IsStoredPool old → is_live (live_of old) id ≡ true → slot
    ≡ get_or old.slots.items id slot → slot.block + blocks_for slot.len ≤ old.blocks
slot_inside old id slot kept live is =
    let lt = slot_within id old.region.items old.slots.items live in
    subst (λ (s : Slot). s.block + blocks_for s.len ≤ old.blocks) (sym is)
    (within_at old.blocks id old.slots.items slot kept.laid.within lt
    (slot_used id old.region.items old.slots.items slot live))

pub slot_fits : (old : Parts) (id : ℕ) (slot : Slot) → IsStoredPool old → is_live (live_of old) id ≡ true → slot
    ≡ get_or old.slots.items id slot → 64 * slot.block + slot.len ≤ length old.region.items
slot_fits old id slot kept live is =
    let inside : slot.block + blocks_for slot.len ≤ old.blocks = slot_inside old id slot kept live is in
    let len : slot.len ≤ 64 * blocks_for slot.len = len_fits slot.len in
    omega (arith, inside, len, kept.laid.region)

pub slot_is_used : (old : Parts) (id : ℕ) (slot : Slot) → is_live (live_of old) id ≡ true → slot
    ≡ get_or old.slots.items id slot → is_used slot ≡ true
slot_is_used old id slot live is = subst (λ (s : Slot). is_used s ≡ true) (sym is)
    (slot_used id old.region.items old.slots.items slot live)

pub slot_is_found : (old : Parts) (id : ℕ) (slot : Slot) → is_live (live_of old) id ≡ true → slot
    ≡ get_or old.slots.items id slot → extent_of (live_of old) id ≡ Some (extent_in old.region.items id slot)
slot_is_found old id slot live is = slot_found id old.region.items old.slots.items slot live
    ∙ ap (λ (s : Slot). Some (extent_in old.region.items id s)) (sym is)

pub some_live : (old : Parts) (id : ℕ) (slot : Slot) → IsStoredPool old → is_live (live_of old) id ≡ true → slot
    ≡ get_or old.slots.items id slot → 1 ≤ old.live
some_live old id slot kept live is =
    let fewer : length (live_of old) ≡ suc (length (dropped id (live_of old)))
    = length-dropped id (extent_in old.region.items id slot) (live_of old) (slot_is_found old id slot live is) in
    omega (arith, fewer, kept.laid.count)

pub some_of_hash : (old : Parts) (id : ℕ) (slot : Slot) → IsStoredPool old → is_live (live_of old) id ≡ true → slot
    ≡ get_or old.slots.items id slot → 0 < count_in (get nat_cmp old.tallies (hash (bytes_of old.region.items slot)))
some_of_hash old id slot kept live is =
    let e : Extent = extent_in old.region.items id slot in
    let h : ℕ = hash (bytes_of old.region.items slot) in
    let one : (if has_hash h e then 1 else 0) ≡ 1 = ap (λ (b : Bool). if b then 1 else 0)
    (eq-eqb (hash (bytes_of old.region.items slot)) h refl) in
    let parts : count_of_hash h (live_of old) ≡ (if has_hash h e then 1 else 0)
    + count_of_hash h (dropped id (live_of old)) = count-dropped id e (live_of old) h
    (slot_is_found old id slot live is) in
    let all : count_in (get nat_cmp old.tallies h) ≡ count_of_hash h (live_of old) = kept.tallied h in
    let some : 0 < count_of_hash h (live_of old) = subst (λ (n : ℕ). 0 < n)
    (sym (parts ∙ ap (λ (n : ℕ). n + count_of_hash h (dropped id (live_of old))) one))
    (positive (count_of_hash h (dropped id (live_of old)))) in
    subst (λ (n : ℕ). 0 < n) (sym all) some
  where
    positive : (n : ℕ) → 0 < 1 + n
    positive n = omega arith

-- the slot that a search found
pub holder_found : (old : Parts) (bytes : List ℕ) (id : ℕ) → IsStoredPool old → IsHeldAt old.region.items old.slots.items
    bytes id → with_bytes (live_of old) bytes
    ≡ Some (extent_in old.region.items id (get_or old.slots.items id (record { block = 0; len = 0; sharers = 0 })))
holder_found old bytes id kept h = held id 0 id old.region.items old.slots.items
    (record { block = 0; len = 0; sharers = 0 }) bytes (self_id id) kept.laid.distinct h.within
    (h.used (record { block = 0; len = 0; sharers = 0 })) (h.has (record { block = 0; len = 0; sharers = 0 }))

pub holder_is : (old : Parts) (bytes : List ℕ) (id : ℕ) → IsHeldAt old.region.items old.slots.items bytes id
    → extent_of (live_of old) id ≡ Some (extent_in old.region.items id
    (get_or old.slots.items id (record { block = 0; len = 0; sharers = 0 })))
holder_is old bytes id h = found_at id 0 id old.region.items old.slots.items
    (record { block = 0; len = 0; sharers = 0 }) (self_id id) h.within
    (h.used (record { block = 0; len = 0; sharers = 0 }))

-- no more ids have a hash than are live
pub few_of_hash : (h : ℕ) (live : List Extent) → count_of_hash h live ≤ length live
unfolding count_of_hash
few_of_hash h [] = omega arith
few_of_hash h (x ∷ xs) = by_test (has_hash h x) (few_of_hash h xs)
  where
    by_test : (t : Bool) → count_of_hash h xs ≤ length xs → (if t then 1 else 0) + count_of_hash h xs ≤ suc (length xs)
    by_test true le = omega arith
    by_test false le = omega arith

-- ---- other sharers of an id

pub live-sharers : (old : Parts) (slots : Vec Slot Global) (id n : ℕ) (d : Slot) → is_live (live_of old) id ≡ true
    → not (n == 0) ≡ true → slots.items ≡ set old.slots.items id
    (record (get_or old.slots.items id d) { sharers = n })
    → live_of (record old { slots = slots }) ≡ with_sharers id n (live_of old)
live-sharers old slots id n d live some is =
    ap (live_from 0 old.region.items) is
    ∙ set_sharers id 0 id n old.region.items old.slots.items d (self_id id)
    (slot_within id old.region.items old.slots.items live) (slot_used id old.region.items old.slots.items d live)
    some

pub kept-sharers : (old : Parts) (slots : Vec Slot Global) (id n : ℕ) (d : Slot) → IsStoredPool old
    → is_live (live_of old) id ≡ true → not (n == 0) ≡ true → slots.items
    ≡ set old.slots.items id (record (get_or old.slots.items id d) { sharers = n })
    → IsStoredPool (record old { slots = slots })
kept-sharers old slots id n d kept live some is =
    let same = live-sharers old slots id n d live some is in
    let new : Slot = record (get_or old.slots.items id d) { sharers = n } in
    let lt = slot_within id old.region.items old.slots.items live in
    record {
      laid = record {
        region = kept.laid.region;
        within = subst (AreWithin old.blocks) (sym is)
            (within-set old.blocks id old.slots.items new kept.laid.within
            (λ _. within_at old.blocks id old.slots.items d kept.laid.within lt
            (slot_used id old.region.items old.slots.items d live)));
        apart = subst AreApart (sym same) (apart-sharers id n (live_of old) kept.laid.apart);
        distinct = subst AreDistinct (sym same) (distinct-sharers id n (live_of old) kept.laid.distinct);
        lowest = subst (AreUsedBelow old.lowest) (sym is)
            (used-set old.lowest id old.slots.items new some kept.laid.lowest);
        ids = subst (λ (l : ℕ). l ≤ 2 ^ 32 - 1) (sym (ap length is ∙ length-set old.slots.items id new)) kept.laid.ids;
        count = kept.laid.count ∙ sym (length-sharers id n (live_of old)) ∙ ap length (sym same);
        holes = record {
          parted = kept.laid.holes.parted;
          exact = λ block lt. kept.laid.holes.exact block lt ∙ ap not (sym (covered-sharers id n (live_of old) block))
              ∙ ap (λ (es : List Extent). not (covered es block)) (sym same);
        };
        room = kept.laid.room;
      };
      tallied = λ h. kept.tallied h ∙ sym (count-sharers id n (live_of old) h) ∙ ap (count_of_hash h) (sym same);
    }

-- ---- an id less

pub live-dropped : (old : Parts) (slots : Vec Slot Global) (id : ℕ) (d new : Slot) → is_live (live_of old) id ≡ true
    → is_used new ≡ false → slots.items ≡ set old.slots.items id new
    → live_from 0 old.region.items slots.items ≡ dropped id (live_of old)
live-dropped old slots id d new live unused is =
    ap (live_from 0 old.region.items) is
    ∙ set_dropped id 0 id old.region.items old.slots.items d new (self_id id)
    (slot_within id old.region.items old.slots.items live) (slot_used id old.region.items old.slots.items d live)
    unused

pub kept-dropped : (old : Parts) (slots : Vec Slot Global) (holes : Vec Hole Global) (tallies : Tallies)
    (lowest left id : ℕ) (d slot new : Slot) → IsStoredPool old → is_live (live_of old) id ≡ true
    → get_or old.slots.items id d ≡ slot
    → is_used new ≡ false → slots.items ≡ set old.slots.items id new → lowest ≤ old.lowest → lowest ≤ id → left + 1
    ≡ old.live
    → holes.items ≡ given slot.block (slot.block + blocks_for slot.len) old.holes.items → vec_capacity holes
    ≡ vec_capacity old.holes → length holes.items ≤ length old.holes.items + 1
    → ((h : ℕ) → (if hash (bytes_of old.region.items slot) == h then 1 else 0) + count_in (get nat_cmp tallies h)
    ≡ count_in (get nat_cmp old.tallies h))
    → IsStoredPool (record old { slots = slots; holes = holes; tallies = tallies; lowest = lowest; live = left })
kept-dropped old slots holes tallies lowest left id d slot new kept live at unused is low_old low_id left_is holes_are
    cap_is more counted =
    let region : List ℕ = old.region.items in
    let e : Extent = extent_in region id slot in
    let lt = slot_within id region old.slots.items live in
    let found : extent_of (live_of old) id ≡ Some e = slot_found id region old.slots.items d live
    ∙ ap (λ (s : Slot). Some (extent_in region id s)) at in
    let used : is_used slot ≡ true = subst (λ (s : Slot). is_used s ≡ true) at
    (slot_used id region old.slots.items d live) in
    let inside : slot.block + blocks_for slot.len ≤ old.blocks
    = (subst (λ (s : Slot). is_used s ≡ true → s.block + blocks_for s.len ≤ old.blocks) at
    (within_at old.blocks id old.slots.items d kept.laid.within lt)) used in
    let size_is : size e ≡ blocks_for slot.len
    = ap blocks_for (bytes_length region slot old.blocks kept.laid.region inside) in
    let same = live-dropped old slots id d new live unused is in
    let fewer : length (live_of old) ≡ suc (length (dropped id (live_of old))) = length-dropped id e (live_of old)
    found in
    let holes_now : holes.items ≡ given e.block (e.block + size e) old.holes.items = holes_are
    ∙ ap (λ (n : ℕ). given slot.block (slot.block + n) old.holes.items) (sym size_is) in
    let kept_holes = holes_given old.holes.items (live_of old) old.blocks id e kept.laid.holes
    (are_inside 0 old.blocks region old.slots.items kept.laid.region kept.laid.within) kept.laid.apart found
    (omega (arith, inside, size_is)) in
    record {
      laid = record {
        region = kept.laid.region;
        within = subst (AreWithin old.blocks) (sym is)
            (within-set old.blocks id old.slots.items new kept.laid.within
            (λ h. let wrong : true ≡ false = sym h ∙ unused in absurd (cc)));
        apart = subst AreApart (sym same) (apart-dropped id (live_of old) kept.laid.apart);
        distinct = subst AreDistinct (sym same) (distinct-dropped id (live_of old) kept.laid.distinct);
        lowest = subst (AreUsedBelow lowest) (sym is)
            (used-less old.lowest lowest id old.slots.items new low_old low_id kept.laid.lowest);
        ids = subst (λ (l : ℕ). l ≤ 2 ^ 32 - 1) (sym (ap length is ∙ length-set old.slots.items id new)) kept.laid.ids;
        count = (let count_is : left ≡ length (dropped id (live_of old))
            = omega (arith, left_is, kept.laid.count, fewer) in count_is) ∙ ap length (sym same);
        holes = subst (λ (es : List Extent). AreHoles holes.items es old.blocks) (sym same)
            (subst (λ (hs : List Hole). AreHoles hs (dropped id (live_of old)) old.blocks) (sym holes_now)
            kept_holes);
        room = omega (arith, kept.laid.room, more, left_is, cap_is);
      };
      tallied = λ h. cancel (if has_hash h e then 1 else 0) (count_in (get nat_cmp tallies h))
          (count_of_hash h (dropped id (live_of old)))
          (counted h ∙ kept.tallied h ∙ count-dropped id e (live_of old) h found) ∙ ap (count_of_hash h) (sym same);
    }
  where
    cancel : (a x z : ℕ) → a + x ≡ a + z → x ≡ z
    cancel a x z h = omega (arith, h)

-- ---- an id more

length_written : (at : ℕ) (bytes region : List ℕ) → at + length bytes ≤ length region
    → length (written_at at bytes region) ≡ length region
length_written at bytes region fits =
    let a : length (take at region) ≡ at = length-take-le at region (omega (arith, fits)) in
    let b : length (drop (at + length bytes) region) ≡ length region - (at + length bytes)
    = length-drop (at + length bytes) region in
    let c : length (take at region ++ bytes) ≡ length (take at region) + length bytes = length-append (take at region)
    bytes in
    length-append (take at region ++ bytes) (drop (at + length bytes) region)
    ∙ (let sum_is : length (take at region ++ bytes) + length (drop (at + length bytes) region) ≡ length region
    = omega (arith, a, b, c, fits) in sum_is)

-- all that is known where new bytes are put
pub record IsNew (old : Parts) (region : Vec ℕ Global) (slots : Vec Slot Global) (holes : Vec Hole Global)
    (blocks : ℕ) (bytes : List ℕ) (spot : Spot) : Type 0 where
  pub laid : IsLaid old
  pub ready : IsReady old (length bytes) spot
  pub new : with_bytes (live_of old) bytes ≡ None
  pub region_is : region.items ≡ written_at (64 * spot.block) bytes old.region.items
  pub slots_are : slots.items ≡ set old.slots.items spot.id
      (record { block = spot.block; len = length bytes; sharers = 1 })
  pub holes_are : holes.items ≡ taken old.blocks spot.count old.holes.items
  pub cap_is : vec_capacity holes ≡ vec_capacity old.holes
  pub fewer : length holes.items ≤ length old.holes.items
  pub blocks_are : blocks ≡ max old.blocks (spot.block + spot.count)

module _ (old : Parts) (region : Vec ℕ Global) (slots : Vec Slot Global) (holes : Vec Hole Global) (blocks : ℕ)
    (bytes : List ℕ) (spot : Spot) (n : IsNew old region slots holes blocks bytes spot) where
  abbrev pub e : Extent
  e = record { id = spot.id; block = spot.block; bytes = bytes; sharers = 1 }

  some_count : 0 < spot.count
  some_count = subst (λ (c : ℕ). 0 < c) (sym n.ready.count) (some_blocks (length bytes))

  short : length bytes ≤ 64 * spot.count
  short = subst (λ (c : ℕ). length bytes ≤ 64 * c) (sym n.ready.count) (len_fits (length bytes))

  inside_old : (block : ℕ) → covered (live_of old) block ≡ true → block < old.blocks
  inside_old = are_inside 0 old.blocks old.region.items old.slots.items n.laid.region n.laid.within

  room : IsLeastRoom (live_of old) spot.count spot.block
  room = subst (IsLeastRoom (live_of old) spot.count) (sym n.ready.block)
      (least_room old.holes.items (live_of old) old.blocks spot.count n.laid.holes inside_old some_count)

  fits : 64 * spot.block + length bytes ≤ length old.region.items
  fits = omega (arith, n.ready.region, short)

  same_region : live_from 0 region.items old.slots.items ≡ live_of old
  same_region = ap (λ (r : List ℕ). live_from 0 r old.slots.items) n.region_is ∙ live_written 0 old.blocks spot.block
      spot.count bytes old.region.items old.slots.items some_count short n.ready.region n.laid.region n.laid.within
      room.room

  is_e : extent_in region.items spot.id (record { block = spot.block; len = length bytes; sharers = 1 }) ≡ e
  is_e = ap (λ (bs : List ℕ). record { id = spot.id; block = spot.block; bytes = bs; sharers = 1 })
      (ap (λ (r : List ℕ). take (length bytes) (drop (64 * spot.block) r)) n.region_is
      ∙ written_there (64 * spot.block) bytes old.region.items fits)

  pub live-new : live_from 0 region.items slots.items ≡ inserted e (live_of old)
  live-new =
      ap (live_from 0 region.items) n.slots_are
      ∙ set_inserted spot.id 0 spot.id region.items old.slots.items no_slot
      (record { block = spot.block; len = length bytes; sharers = 1 }) (self_id spot.id) n.ready.within
      (n.ready.id.unused no_slot n.ready.within) refl
      ∙ ap (λ (x : Extent). inserted x (live_from 0 region.items old.slots.items)) is_e
      ∙ ap (inserted e) same_region
    where
      no_slot : Slot
      no_slot = record { block = 0; len = 0; sharers = 0 }

  size_is : size e ≡ spot.count
  size_is = sym n.ready.count

  pub kept-new : ((h : ℕ) → count_in (get nat_cmp old.tallies h) ≡ (if hash bytes == h then 1 else 0)
      + count_of_hash h (live_of old)) → IsStoredPool
      (record old { region = region; slots = slots; holes = holes; blocks = blocks; live = old.live + 1 })
  kept-new counted =
      let new : Slot = record { block = spot.block; len = length bytes; sharers = 1 } in
      let same = live-new in
      let long : length region.items ≡ length old.region.items = ap length n.region_is
      ∙ length_written (64 * spot.block) bytes old.region.items fits in
      let wider : old.blocks ≤ blocks = omega (arith, n.blocks_are) in
      let ends : spot.block + blocks_for (length bytes) ≤ blocks = omega (arith, n.blocks_are, n.ready.count) in
      let blocks_fit : blocks ≡ max old.blocks (fit old.blocks spot.count old.holes.items + spot.count) = n.blocks_are
      ∙ ap (λ (b : ℕ). max old.blocks (b + spot.count)) n.ready.block in
      let kept_holes = holes_taken old.holes.items (live_of old) old.blocks spot.count e n.laid.holes inside_old
      n.ready.block size_is in
      let room_e = subst (λ (c : ℕ). IsLeastRoom (live_of old) c spot.block) (sym size_is) room in
      record {
        laid = record {
          region = omega (arith, long, n.blocks_are, n.ready.region, n.laid.region);
          within = subst (AreWithin blocks) (sym n.slots_are)
              (within-set blocks spot.id old.slots.items new
              (within-wider old.blocks blocks old.slots.items wider n.laid.within) (λ _. ends));
          apart = subst AreApart (sym same) (apart-inserted e (live_of old) room_e.room n.laid.apart);
          distinct = subst AreDistinct (sym same) (distinct-inserted e (live_of old) n.new n.laid.distinct);
          lowest = subst (AreUsedBelow old.lowest) (sym n.slots_are)
              (used-set old.lowest spot.id old.slots.items new refl n.laid.lowest);
          ids = subst (λ (l : ℕ). l ≤ 2 ^ 32 - 1)
              (sym (ap length n.slots_are ∙ length-set old.slots.items spot.id new)) n.laid.ids;
          count = (let one_more : old.live + 1 ≡ suc (length (live_of old)) = omega (arith, n.laid.count) in one_more)
              ∙ sym (length-inserted e (live_of old)) ∙ ap length (sym same);
          holes = subst (λ (es : List Extent). AreHoles holes.items es blocks) (sym same)
              (subst (λ (hs : List Hole). AreHoles hs (inserted e (live_of old)) blocks) (sym n.holes_are)
              (subst (AreHoles (taken old.blocks spot.count old.holes.items) (inserted e (live_of old)))
              (sym blocks_fit) kept_holes));
          room = omega (arith, n.ready.holes, n.fewer, n.cap_is);
        };
        tallied = λ h. counted h ∙ sym (count-inserted e (live_of old) h) ∙ ap (count_of_hash h) (sym same);
      }

  least_free : IsLeastFree (live_of old) spot.id
  least_free = record {
    free = ap is_some (none_at spot.id 0 spot.id old.region.items old.slots.items no_slot (self_id spot.id)
        n.ready.within (n.ready.id.unused no_slot n.ready.within));
    least = λ other lt. ap is_some (found_at other 0 other old.region.items old.slots.items no_slot (self_id other)
        (omega (arith, lt, n.ready.within)) (used_at spot.id other old.slots.items no_slot n.ready.id.below lt));
  }
    where
      no_slot : Slot
      no_slot = record { block = 0; len = 0; sharers = 0 }

  pub is-put : IsPut (pool_of old) (pool_of
      (record old { region = region; slots = slots; holes = holes; blocks = blocks; live = old.live + 1 })) spot.id
      bytes
  is-put = record {
    block = spot.block;
    free = least_free;
    room = subst (λ (c : ℕ). IsLeastRoom (live_of old) c spot.block) (sym size_is) room;
    live = live-new;
    blocks = n.blocks_are ∙ ap (λ (c : ℕ). max old.blocks (spot.block + c)) n.ready.count;
  }
