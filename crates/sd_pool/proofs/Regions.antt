-- A region that is written in one place has the same bytes in the others.
use Rattle.std.proofs.Common.{◌≡◌, ◌⊎◌, inl, inr, ℕ, ◌+◌, ◌*◌, ◌-◌, ◌<◌, ◌≤◌, Bool, true, false, List, [], ◌∷◌, ◌++◌}
use Rattle.std.proofs.Common.{length, take, drop, refl, ap, sym, ◌∙◌, arith}
use Rattle.std.specs.Prelude.{nat_lt, if◌then◌else◌}
use Rattle.std.proofs.lemmas.Bool.{ltb-true, ltb-false, or_parts}
use Rattle.std.proofs.lemmas.List.{take-append-le, take-take, drop-take, drop-drop, length-take-le, length-append}
use Rattle.std.proofs.lemmas.List.{append_assoc}
use Rattle.std.proofs.Math.Seq.{take-length, drop-append_seam, take-append_seam, drop-append-add}
use Rattle.sd_pool.specs.declared.slot.Slot.{Slot}
use Rattle.sd_pool.specs.Blocks.{blocks_for, Extent, covers, covered, IsRoom}
use Rattle.sd_pool.specs.Slots.{is_used, bytes_of, extent_in, live_from, AreWithin}
use Rattle.sd_pool.proofs.Covering.{size, covers_from, some_blocks}
use Rattle.sd_pool.proofs.Slotted.{len_fits, bytes_length}

-- lists of one prefix have the same part in it
same_part : (off len n : ℕ) (xs ys : List ℕ) → take n xs ≡ take n ys → off + len ≤ n → take len (drop off xs)
    ≡ take len (drop off ys)
same_part off len n xs ys h le =
    sym (drop-take off len xs)
    ∙ ap (drop off) (sym (take-take (off + len) n xs le) ∙ ap (take (off + len)) h ∙ take-take (off + len) n ys le)
    ∙ drop-take off len ys

-- ---- a longer region

pub same_front : (off len : ℕ) (region longer : List ℕ) → take (length region) longer ≡ region → off + len
    ≤ length region → take len (drop off longer) ≡ take len (drop off region)
same_front off len region longer front fits = same_part off len (length region) longer region
    (front ∙ sym (take-length region)) fits

-- ---- a write

abbrev pub written_at : ℕ → List ℕ → List ℕ → List ℕ
written_at at bytes region = take at region ++ bytes ++ drop (at + length bytes) region

pub written_there : (at : ℕ) (bytes region : List ℕ) → at + length bytes ≤ length region
    → take (length bytes) (drop at (written_at at bytes region)) ≡ bytes
written_there at bytes region fits =
    let front : length (take at region) ≡ at = length-take-le at region (omega (arith, fits)) in
    let rest : List ℕ = drop (at + length bytes) region in
    ap (λ (xs : List ℕ). take (length bytes) (drop at xs)) (append_assoc (take at region) bytes rest)
    ∙ ap (λ (n : ℕ). take (length bytes) (drop n (take at region ++ (bytes ++ rest)))) (sym front)
    ∙ ap (take (length bytes)) (drop-append_seam (take at region) (bytes ++ rest))
    ∙ take-append_seam bytes rest

pub written_before : (off len at : ℕ) (bytes region : List ℕ) → at + length bytes ≤ length region → off + len ≤ at
    → take len (drop off (written_at at bytes region)) ≡ take len (drop off region)
written_before off len at bytes region fits before =
    let front : length (take at region) ≡ at = length-take-le at region (omega (arith, fits)) in
    let rest : List ℕ = drop (at + length bytes) region in
    let same : at ≤ at = omega arith in
    same_part off len at (written_at at bytes region) region
    (ap (take at) (append_assoc (take at region) bytes rest) ∙ take-append-le at (take at region) (bytes ++ rest)
    (omega (arith, front)) ∙ take-take at at region same)
    before

pub written_after : (off len at : ℕ) (bytes region : List ℕ) → at + length bytes ≤ length region → at + length bytes
    ≤ off → take len (drop off (written_at at bytes region)) ≡ take len (drop off region)
written_after off len at bytes region fits after =
    let front : length (take at region) ≡ at = length-take-le at region (omega (arith, fits)) in
    let first : List ℕ = take at region ++ bytes in
    let rest : List ℕ = drop (at + length bytes) region in
    let more : ℕ = off - (at + length bytes) in
    let long : length first ≡ at + length bytes = length-append (take at region) bytes
    ∙ ap (λ (n : ℕ). n + length bytes) front in
    let off_is : off ≡ length first + more = omega (arith, long, after) in
    let back : (at + length bytes) + more ≡ off = omega (arith, after) in
    ap (λ (n : ℕ). take len (drop n (first ++ rest))) off_is
    ∙ ap (take len) (drop-append-add first rest more ∙ drop-drop more (at + length bytes) region
    ∙ ap (λ (n : ℕ). drop n region) back)

-- ---- room that no slot has

-- an extent that has no block of the room ends before it or begins after it
room_apart : (e : Extent) (first count : ℕ) → 0 < count
    → ((block : ℕ) → first ≤ block → block < first + count → covers e block ≡ false) → (e.block + size e ≤ first)
    ⊎ (first + count ≤ e.block)
room_apart e first count some none = by_order (nat_lt e.block first) refl
  where
    by_order : (t : Bool) → nat_lt e.block first ≡ t → (e.block + size e ≤ first) ⊎ (first + count ≤ e.block)
    by_order true lt = by_end (nat_lt first (e.block + size e)) refl
      where
        by_end : (t : Bool) → nat_lt first (e.block + size e) ≡ t → (e.block + size e ≤ first)
            ⊎ (first + count ≤ e.block)
        by_end true over =
            let low : e.block < first = ltb-true e.block first lt in
            let high : first < e.block + size e = ltb-true first (e.block + size e) over in
            let wrong : true ≡ false = sym (covers_from e first (omega arith) high) ∙ none first (omega arith)
            (omega arith) in absurd (cc)
        by_end false le = inl (ltb-false first (e.block + size e) le)
    by_order false ge = by_start (nat_lt e.block (first + count)) refl
      where
        by_start : (t : Bool) → nat_lt e.block (first + count) ≡ t → (e.block + size e ≤ first)
            ⊎ (first + count ≤ e.block)
        by_start true within =
            let low : first ≤ e.block = ltb-false e.block first ge in
            let high : e.block < first + count = ltb-true e.block (first + count) within in
            let some_own : 0 < size e = some_blocks (length e.bytes) in
            let wrong : true ≡ false = sym (covers_from e e.block (omega arith) (omega arith)) ∙ none e.block low high
            in absurd (cc)
        by_start false le = inr (ltb-false e.block (first + count) le)

-- ---- the same live ids

pub live_longer : (k blocks : ℕ) (region longer : List ℕ) (slots : List Slot) → 64 * blocks ≤ length region
    → take (length region) longer ≡ region → AreWithin blocks slots → live_from k longer slots
    ≡ live_from k region slots
unfolding live_from
live_longer k blocks region longer [] long front within = refl
live_longer k blocks region longer (slot ∷ slots) long front within = by_used (is_used slot) refl
    (live_longer (k + 1) blocks region longer slots long front within.1)
  where
    by_used : (t : Bool) → is_used slot ≡ t → live_from (k + 1) longer slots ≡ live_from (k + 1) region slots
        → (if t then extent_in longer k slot ∷ live_from (k + 1) longer slots else live_from (k + 1) longer slots)
        ≡ (if t then extent_in region k slot ∷ live_from (k + 1) region slots else live_from (k + 1) region slots)
    by_used true used rest =
        let fits : slot.block + blocks_for slot.len ≤ blocks = within.0 used in
        let len : slot.len ≤ 64 * blocks_for slot.len = len_fits slot.len in
        ap (λ (bs : List ℕ). record { id = k; block = slot.block; bytes = bs; sharers = slot.sharers }
        ∷ live_from (k + 1) longer slots)
        (same_front (64 * slot.block) slot.len region longer front (omega (arith, fits, len, long)))
        ∙ ap (λ (es : List Extent). extent_in region k slot ∷ es) rest
    by_used false unused rest = rest

-- bytes written into room that no live id has
pub live_written : (k blocks first count : ℕ) (bytes region : List ℕ) (slots : List Slot) → 0 < count → length bytes
    ≤ 64 * count → 64 * (first + count) ≤ length region → 64 * blocks ≤ length region → AreWithin blocks slots
    → IsRoom (live_from k region slots) count first → live_from k (written_at (64 * first) bytes region) slots
    ≡ live_from k region slots
unfolding live_from covered
live_written k blocks first count bytes region [] some short room_there long within room = refl
live_written k blocks first count bytes region (slot ∷ slots) some short room_there long within room
    = by_used (is_used slot) refl room (λ later. live_written (k + 1) blocks first count bytes region slots some short
    room_there long within.1 later)
  where
    new : List ℕ
    new = written_at (64 * first) bytes region

    by_used : (t : Bool) → is_used slot ≡ t
        → IsRoom (if t then extent_in region k slot ∷ live_from (k + 1) region slots else live_from (k + 1) region
        slots) count first
        → (IsRoom (live_from (k + 1) region slots) count first → live_from (k + 1) new slots
        ≡ live_from (k + 1) region slots)
        → (if t then extent_in new k slot ∷ live_from (k + 1) new slots else live_from (k + 1) new slots)
        ≡ (if t then extent_in region k slot ∷ live_from (k + 1) region slots else live_from (k + 1) region slots)
    by_used true used room rest =
        ap (λ (bs : List ℕ). record { id = k; block = slot.block; bytes = bs; sharers = slot.sharers }
        ∷ live_from (k + 1) new slots)
        (same (room_apart (extent_in region k slot) first count some
        (λ block low high. (parts block low high).0)))
        ∙ ap (λ (es : List Extent). extent_in region k slot ∷ es) (rest (λ block low high. (parts block low high).1))
      where
        parts : (block : ℕ) → first ≤ block → block < first + count → (covers (extent_in region k slot) block ≡ false)
            × (covered (live_from (k + 1) region slots) block ≡ false)
        parts block low high = or_parts (covers (extent_in region k slot) block)
            (covered (live_from (k + 1) region slots) block) (room block low high)

        fits : slot.block + blocks_for slot.len ≤ blocks
        fits = within.0 used

        size_is : size (extent_in region k slot) ≡ blocks_for slot.len
        size_is = ap blocks_for (bytes_length region slot blocks long fits)

        len : slot.len ≤ 64 * blocks_for slot.len
        len = len_fits slot.len

        same : (slot.block + size (extent_in region k slot) ≤ first) ⊎ (first + count ≤ slot.block)
            → bytes_of new slot ≡ bytes_of region slot
        same (inl before) = written_before (64 * slot.block) slot.len (64 * first) bytes region
            (omega (arith, short, room_there)) (omega (arith, before, size_is, len))
        same (inr after) = written_after (64 * slot.block) slot.len (64 * first) bytes region
            (omega (arith, short, room_there)) (omega (arith, after, short))
    by_used false unused room rest = rest room
