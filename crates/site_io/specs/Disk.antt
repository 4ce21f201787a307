-- What calls do to the two slots, and what a crash may leave of them.
use Rattle.std.specs.Prelude.{◌≡◌, ◌⊎◌, ℕ, ◌+◌, ◌<◌, ◌≤◌, ◌↔◌, List, ◌++◌, length, take, drop, slice_index, Option}
use Rattle.std.specs.Prelude.{Result, Ok, Err, IfSome}
use Rattle.site_io.specs.declared.slot.Slot.{Slot}
use Rattle.site_io.specs.declared.slot.Slot.TheVariants.{A, B}

-- the bytes of the two slots
pub record Images : Type 0 where
  pub a : List ℕ
  pub b : List ℕ

abbrev pub images_of : List ℕ → List ℕ → Images
images_of a b = record { a = a; b = b }

abbrev pub at_slot : Slot → Images → List ℕ
at_slot A images = images.a
at_slot B images = images.b

-- the same crash states, but for one slot
abbrev pub with_slot : Slot → Images → List ℕ → Images
with_slot A images bytes = record { a = bytes; b = images.b }
with_slot B images bytes = record { a = images.a; b = bytes }

-- old with these bytes at this offset
abbrev pub put : ℕ → List ℕ → List ℕ → List ℕ
put at bytes old = take at old ++ bytes ++ drop (at + length bytes) old

-- After a write of n bytes that a crash cuts short: any bytes in the range, and any past the old end, of any length.
-- Each other byte stays.
pub record Torn (at n : ℕ) (old new : List ℕ) : Type 0 where
  pub stays : (i : ℕ) → i < length old → (i < at) ⊎ (at + n ≤ i) → slice_index new i ≡ slice_index old i
  pub no_shorter : length old ≤ length new

-- What a write leaves of its slot. One that fails may have written any part of its range.
abbrev pub Written : {T E : Type 0} → ℕ → List ℕ → Result T E → List ℕ → List ℕ → Type 0
Written at bytes (Ok done) old new = new ≡ put at bytes old
Written at bytes (Err e) old new = Torn at (length bytes) old new

-- A write changes its slot alone.
abbrev pub WritesAt : {T E : Type 0} → Slot → ℕ → List ℕ → Result T E → Images → Images → Type 0
WritesAt slot at bytes result old new = (new ≡ with_slot slot old (at_slot slot new)) × Written at bytes result
    (at_slot slot old) (at_slot slot new)

-- n bytes were read from an offset in what a slot holds, and none into a buffer for some only at or past the end
abbrev pub ReadsAt : ℕ → ℕ → List ℕ → List ℕ → Type 0
ReadsAt at n into held = (take n into ≡ take n (drop at held)) × (n ≡ 0 → 0 < length into → length held ≤ at)

-- n bytes were read from an offset in what a slot holds, and fewer than there was room for only up to its end
abbrev pub ReadsFull : ℕ → ℕ → List ℕ → List ℕ → Type 0
ReadsFull at n into held = (take n into ≡ take n (drop at held)) × (n < length into → length held ≤ at + n)

-- Moments go on: what a crash might have left at an earlier one stays as it was. The two functions say what a crash
-- at a moment may leave of the slots, when some bytes had been emitted.
pub record GoesOn (before after : ℕ) (old new : ℕ → Images → List ℕ → Type 0) : Type 0 where
  pub later : before ≤ after
  pub earlier : (t : ℕ) (images : Images) (out : List ℕ) → t < before → new t images out ↔ old t images out

-- At each moment from before on, a crash leaves states that it could leave then.
abbrev pub LeavesSame : ℕ → (ℕ → Images → List ℕ → Type 0) → (ℕ → Images → List ℕ → Type 0) → Type 0
LeavesSame before old new = (t : ℕ) (images : Images) (out : List ℕ) → before ≤ t → new t images out
    → old before images out

-- What a crash could leave then it may leave at each moment up to now: with `LeavesSame`, exactly that.
abbrev pub LeavesAll : ℕ → ℕ → (ℕ → Images → List ℕ → Type 0) → (ℕ → Images → List ℕ → Type 0) → Type 0
LeavesAll before after old new = (t : ℕ) (images : Images) (out : List ℕ) → before ≤ t → t ≤ after
    → old before images out → new t images out

-- At each moment from before on, a crash leaves states that it could leave then, but for a range of one slot.
abbrev pub LeavesTorn : Slot → ℕ → ℕ → ℕ → (ℕ → Images → List ℕ → Type 0) → (ℕ → Images → List ℕ → Type 0) → Type 0
LeavesTorn slot at n before old new = (t : ℕ) (images : Images) (out : List ℕ) → before ≤ t → new t images out
    → (held : List ℕ) × old before (with_slot slot images held) out × Torn at n held (at_slot slot images)

-- At each moment from before on, a crash leaves states that it could leave then, and a prefix of the bytes had been
-- emitted besides.
abbrev pub LeavesEmitted : List ℕ → ℕ → (ℕ → Images → List ℕ → Type 0) → (ℕ → Images → List ℕ → Type 0) → Type 0
LeavesEmitted bytes before old new = (t : ℕ) (images : Images) (out : List ℕ) → before ≤ t → new t images out
    → (so_far : List ℕ) × (n : ℕ) × old before images so_far × (out ≡ so_far ++ take n bytes)

-- At this moment a crash leaves of a slot what a read gives.
abbrev pub LeavesHeld : Slot → Option Images → ℕ → (ℕ → Images → List ℕ → Type 0) → Type 0
LeavesHeld slot reads now left = IfSome reads (λ held. (images : Images) (out : List ℕ) → left now images out
    → at_slot slot images ≡ at_slot slot held)
