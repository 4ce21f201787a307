-- What is no store.
use Rattle.std.proofs.Common.{◌≡◌, ◌⊎◌, inl, inr, ℕ, ◌-◌, ◌<◌, ◌≤◌, ◌^◌, List, [], ◌∷◌, ◌++◌, length, take, drop}
use Rattle.std.proofs.Common.{get_or, sym, ◌∙◌, ap, subst, arith, append_assoc, length-append, length-drop}
use Rattle.std.proofs.Common.{take-append-drop}
use Rattle.std.proofs.lemmas.List.{length-take-le, take_all}
use Rattle.std.specs.Int.{from_be_bytes, w64}
use Rattle.site_io.specs.Disk.{Images, at_slot}
use Rattle.site_io.specs.declared.slot.Slot.{Slot}
use Rattle.site_io.specs.declared.slot.Slot.TheVariants.{A, B}
use Rattle.gate_log.specs.Layout.{opened, AreRecords, HasRecords}
use Rattle.gate_log.specs.Reading.{BeginRecords, IsOpened, IsSlotOfTwo}
use Rattle.gate_log.specs.Store.{other, IsClosed, IsOlder, IsOpen, IsOne, IsEmptyStore, IsBrokenStore, HasBodies}
use Rattle.gate_log.specs.Store.{HasBodiesTwo}
use Rattle.gate_log.proofs.Single.{front_same, stuck, has_head, one_generation, closed_shut, head_open, ahead, not_two}

pub none_in_none : (bodies : List (List ℕ)) (bytes : List ℕ) → length bytes ≡ 0 → BeginRecords bodies bytes → ⊥
none_in_none [] bytes short begins = omega (arith, short, ap (λ (l : List ℕ). length l) begins.3)
none_in_none (b ∷ bs) bytes short begins = omega (arith, short, ap (λ (l : List ℕ). length l) begins.4)

-- An open gate with less than a length after it begins no record.
pub none_in_short : (bodies : List (List ℕ)) (bytes tail : List ℕ) (gate : ℕ) → bytes ≡ gate ∷ tail → gate ≡ 1
    → length tail < 8 → BeginRecords bodies bytes → ⊥
none_in_short [] bytes tail gate is is_open short begins
    = begins.2 (ap (λ (l : List ℕ). get_or l 0 0) (sym begins.3 ∙ is) ∙ is_open)
none_in_short (b ∷ bs) bytes tail gate is is_open short begins =
    let inside : tail ≡ begins.0 ++ b ++ begins.1 = ap (λ (l : List ℕ). drop 1 l) (sym is ∙ begins.4) in
    omega (
      arith,
      short,
      begins.2,
      ap (λ (l : List ℕ). length l) inside,
      length-append (begins.0 ++ b) begins.1,
      length-append begins.0 b,
    )

-- Nor does a length that is more than what stands after it.
pub none_in_long : (bodies : List (List ℕ)) (bytes tail size behind : List ℕ) (gate n : ℕ) → bytes ≡ gate ∷ tail
    → gate ≡ 1 → size ≡ take 8 tail → behind ≡ drop 8 tail → 8 ≤ length tail → n ≡ from_be_bytes w64 size
    → length behind < n → BeginRecords bodies bytes → ⊥
none_in_long [] bytes tail size behind gate n is is_open size_is behind_is long value less begins
    = begins.2 (ap (λ (l : List ℕ). get_or l 0 0) (sym begins.3 ∙ is) ∙ is_open)
none_in_long (b ∷ bs) bytes tail size behind gate n is is_open size_is behind_is long value less begins =
    let inside : take 8 tail ++ drop 8 tail ≡ begins.0 ++ (b ++ begins.1) = take-append-drop 8 tail
    ∙ ap (λ (l : List ℕ). drop 1 l) (sym is ∙ begins.4) ∙ append_assoc begins.0 b begins.1 in
    let same = front_same (take 8 tail) begins.0 (drop 8 tail) (b ++ begins.1)
    (length-take-le 8 tail long ∙ sym begins.2) inside in
    let value_is : n ≡ length b = value ∙ ap (λ (l : List ℕ). from_be_bytes w64 l) (size_is ∙ same.0) ∙ begins.3 in
    omega (arith, less, value_is, ap (λ (l : List ℕ). length l) (behind_is ∙ same.1), length-append b begins.1)

-- what stands after some bytes, as a part
pub all_behind : (bodies : List (List ℕ)) (bytes : List ℕ) (at : ℕ) → BeginRecords bodies (drop at bytes)
    → BeginRecords bodies (take (length bytes - at) (drop at bytes))
all_behind bodies bytes at begins = subst (BeginRecords bodies)
    (sym (take_all (length bytes - at) (drop at bytes) (omega (arith, length-drop at bytes)))) begins

pub stuck_at : (done bodies : List (List ℕ)) (bytes : List ℕ) (at : ℕ) → AreRecords done (take at bytes)
    → ((more : List (List ℕ)) → BeginRecords more (take (length bytes - at) (drop at bytes)) → ⊥)
    → BeginRecords bodies bytes → ⊥
stuck_at done bodies bytes at are none begins =
    stuck done bodies (take at bytes) (drop at bytes) are (λ more here. none more (all_behind more bytes at here))
    (subst (BeginRecords bodies) (sym (take-append-drop at bytes)) begins)

pub no_slot : (bytes : List ℕ) → IsOpen bytes
    → ((version generation : ℕ) (rest : List ℕ) → bytes ≡ opened version generation rest → ⊥) → IsSlotOfTwo bytes → ⊥
no_slot bytes is_open none (inl closed) = closed_shut bytes closed is_open
no_slot bytes is_open none (inr head) = none 2 head.0 head.1 head.4

-- Each slot of a store of version 2 is closed, or open with a head.
pub slots_of_two : (images : Images) (bodies : List (List ℕ)) → HasBodiesTwo images bodies → (slot : Slot)
    → IsSlotOfTwo (at_slot slot images)
slots_of_two images bodies two slot = at two.live slot two.generation two.end two.has two.rest two.above two.below
  where
    beside : (bytes : List ℕ) (generation : ℕ) → IsClosed bytes ⊎ IsOlder generation bytes → generation < 2 ^ 64
        → IsSlotOfTwo bytes
    beside bytes generation (inl closed) small = inl closed
    beside bytes generation (inr older) small = inr (older.0, older.1, older.2, omega (arith, older.3, small), older.4)

    of_live : (bytes : List ℕ) (generation end : ℕ) → HasRecords bytes 2 generation end bodies → 0 < generation
        → generation < 2 ^ 64 → IsSlotOfTwo bytes
    of_live bytes generation end has above below = let front = has_head bytes 2 generation end bodies has
        in inr (generation, front.0, above, below, front.1)

    at : (live slot : Slot) (generation end : ℕ) → HasRecords (at_slot live images) 2 generation end bodies
        → IsClosed (at_slot (other live) images) ⊎ IsOlder generation (at_slot (other live) images) → 0 < generation
        → generation < 2 ^ 64 → IsSlotOfTwo (at_slot slot images)
    at A A generation end has rest above below = of_live images.a generation end has above below
    at A B generation end has rest above below = beside images.b generation rest below
    at B A generation end has rest above below = beside images.a generation rest below
    at B B generation end has rest above below = of_live images.b generation end has above below

-- the generation of an open slot with records
generation_is : (bytes : List ℕ) (generation found end : ℕ) (bodies : List (List ℕ)) → IsOpened bytes generation
    → HasRecords bytes 2 found end bodies → found < 2 ^ 64 → found ≡ generation
generation_is bytes generation found end bodies opened has small =
    let front = has_head bytes 2 found end bodies has in
    one_generation bytes front.0 (drop 14 bytes) 2 2 found generation small opened.below front.1 opened.head

-- Where the records of the one open slot don't end, the store has no bodies.
pub alone : (images : Images) (bodies : List (List ℕ)) (slot : Slot) (generation : ℕ) → IsOpened (at_slot slot images)
    generation → IsClosed (at_slot (other slot) images)
    → ((end : ℕ) (bodies : List (List ℕ)) → HasRecords (at_slot slot images) 2 generation end bodies → ⊥)
    → HasBodiesTwo images bodies → ⊥
alone images bodies slot generation is_opened closed none two = at slot two.live two.generation two.end is_opened
    closed none two.has two.below
  where
    shut : (bytes : List ℕ) (found end : ℕ) → IsClosed bytes → HasRecords bytes 2 found end bodies → ⊥
    shut bytes found end is_closed has = let front = has_head bytes 2 found end bodies has
        in closed_shut bytes is_closed (head_open bytes front.0 2 found front.1)

    at : (slot live : Slot) (found end : ℕ) → IsOpened (at_slot slot images) generation
        → IsClosed (at_slot (other slot) images)
        → ((end : ℕ) (bodies : List (List ℕ)) → HasRecords (at_slot slot images) 2 generation end bodies → ⊥)
        → HasRecords (at_slot live images) 2 found end bodies → found < 2 ^ 64 → ⊥
    at A A found end here away none has small
        = none end bodies (subst (λ g. HasRecords images.a 2 g end bodies)
        (generation_is images.a generation found end bodies here has small) has)
    at B B found end here away none has small
        = none end bodies (subst (λ g. HasRecords images.b 2 g end bodies)
        (generation_is images.b generation found end bodies here has small) has)
    at A B found end here away none has small = shut images.b found end away has
    at B A found end here away none has small = shut images.a found end away has

-- Nor where those of the newer of two don't.
pub newer_none : (images : Images) (bodies : List (List ℕ)) (slot : Slot) (generation lower : ℕ)
    → IsOpened (at_slot slot images) generation → IsOpened (at_slot (other slot) images) lower → lower ≤ generation
    → ((end : ℕ) (bodies : List (List ℕ)) → HasRecords (at_slot slot images) 2 generation end bodies → lower
    < generation → ⊥) → HasBodiesTwo images bodies → ⊥
newer_none images bodies slot generation lower here away less none two = at slot two.live two.generation two.end here
    away none two.has two.below two.rest
  where
    behind : (bytes : List ℕ) (found known : ℕ) → IsOpened bytes known → found < 2 ^ 64 → IsClosed bytes
        ⊎ IsOlder found bytes → known < found
    behind bytes found known is small rest = ahead bytes (drop 14 bytes) found known small is.below is.head rest

    at : (slot live : Slot) (found end : ℕ) → IsOpened (at_slot slot images) generation
        → IsOpened (at_slot (other slot) images) lower
        → ((end : ℕ) (bodies : List (List ℕ)) → HasRecords (at_slot slot images) 2 generation end bodies → lower
        < generation → ⊥) → HasRecords (at_slot live images) 2 found end bodies → found < 2 ^ 64
        → IsClosed (at_slot (other live) images) ⊎ IsOlder found (at_slot (other live) images) → ⊥
    at A A found end here away none has small rest =
        let same = generation_is images.a generation found end bodies here has small in
        none end bodies (subst (λ g. HasRecords images.a 2 g end bodies) same has)
        (omega (arith, same, behind images.b found lower away small rest))
    at B B found end here away none has small rest =
        let same = generation_is images.b generation found end bodies here has small in
        none end bodies (subst (λ g. HasRecords images.b 2 g end bodies) same has)
        (omega (arith, same, behind images.a found lower away small rest))
    at A B found end here away none has small rest
        = omega (
          arith,
          less,
          generation_is images.b lower found end bodies away has small,
          behind images.a found
              generation here small rest,
        )
    at B A found end here away none has small rest
        = omega (
          arith,
          less,
          generation_is images.a lower found end bodies away has small,
          behind images.b found
              generation here small rest,
        )

pub broken_one : (images : Images) → IsOne images.a
    → ((end : ℕ) (bodies : List (List ℕ)) → HasRecords images.a 1 1 end bodies → ⊥) → IsBrokenStore images
broken_one images one none = record { full = λ empty. empty.0 one.0; none = λ bodies has. refuse bodies has }
  where
    refuse : (bodies : List (List ℕ)) → HasBodies images bodies → ⊥
    refuse bodies (inl x) = none x.0 bodies x.1
    refuse bodies (inr x) = not_two images bodies one x

pub broken_two : (images : Images) → (IsOne images.a → ⊥) → (IsEmptyStore images → ⊥)
    → ((bodies : List (List ℕ)) → HasBodiesTwo images bodies → ⊥) → IsBrokenStore images
broken_two images not_one full none = record { full = full; none = λ bodies has. refuse bodies has }
  where
    refuse : (bodies : List (List ℕ)) → HasBodies images bodies → ⊥
    refuse bodies (inl x) =
        let front = has_head images.a 1 1 x.0 bodies x.1 in
        not_one (head_open images.a front.0 1 1 front.1, ap (λ (l : List ℕ). get_or l 5 0) front.1)
    refuse bodies (inr x) = none bodies x
