-- The two slots together.
use Rattle.std.proofs.Common.{◌≡◌, ◌⊎◌, inl, inr, ℕ, List, Option, Some, Bool, true, false, refl, sym, subst}
use Rattle.site_io.specs.Disk.{Images, at_slot, with_slot, LeavesHeld}
use Rattle.site_io.specs.declared.slot.Slot.{Slot}
use Rattle.site_io.specs.declared.slot.Slot.TheVariants.{A, B}
use Rattle.gate_log.specs.Layout.{HasRecords}
use Rattle.gate_log.specs.Moments.{LastsWhole}
use Rattle.gate_log.specs.Store.{other, IsClosed, IsOlder, HasBodies, OtherRests, Rests, number_of}
use Rattle.gate_log.specs.declared.version.Version.{Version}
use Rattle.gate_log.specs.declared.version.Version.TheVariants.{One, Two}

pub at_with : (slot : Slot) (images : Images) (bytes : List ℕ) → at_slot slot (with_slot slot images bytes) ≡ bytes
at_with A images bytes = refl
at_with B images bytes = refl

pub other_with : (slot : Slot) (images : Images) (bytes : List ℕ) → at_slot (other slot) (with_slot slot images bytes)
    ≡ at_slot (other slot) images
other_with A images bytes = refl
other_with B images bytes = refl

pub with_twice : (slot : Slot) (images : Images) (bytes again : List ℕ) → with_slot slot (with_slot slot images bytes)
    again ≡ with_slot slot images again
with_twice A images bytes again = refl
with_twice B images bytes again = refl

-- crash states that are the same but for one slot
pub but_one : (slot : Slot) (images held : Images) (bytes : List ℕ) → with_slot slot images bytes ≡ held
    → (images ≡ with_slot slot held (at_slot slot images)) × (bytes ≡ at_slot slot held)
but_one A images held bytes is = ((λ k. record { a = images.a; b = (is k).b }), (λ k. (is k).a))
but_one B images held bytes is = ((λ k. record { a = (is k).a; b = images.b }), (λ k. (is k).b))

-- of one slot and of the other
pub lasts_both : (slot : Slot) (reads : Option Images) (now : ℕ) (left : ℕ → Images → List ℕ → Type 0)
    → LeavesHeld slot reads now left → LeavesHeld (other slot) reads now left → LastsWhole reads now left
lasts_both A reads now left this rest = (this, rest)
lasts_both B reads now left this rest = (rest, this)

pub lasts_other : (slot : Slot) (reads : Option Images) (now : ℕ) (left : ℕ → Images → List ℕ → Type 0)
    → LastsWhole reads now left → LeavesHeld (other slot) reads now left
lasts_other A reads now left both = both.1
lasts_other B reads now left both = both.0

-- all of it is durable
pub held_whole : (held : Images) (now : ℕ) (left : ℕ → Images → List ℕ → Type 0) → LeavesHeld A (Some held) now left
    → LeavesHeld B (Some held) now left → (images : Images) (out : List ℕ) → left now images out → images ≡ held
held_whole held now left in_a in_b images out here = λ k.
    record { a = in_a images out here k; b = in_b images out here k }

rest_of : (live : Slot) (is_open : Bool) (generation : ℕ) (bytes : List ℕ) → OtherRests Two live generation is_open
    bytes → IsClosed bytes ⊎ IsOlder generation bytes
rest_of live true generation bytes rest = inr rest
rest_of live false generation bytes rest = inl rest

-- A live slot with these records makes a store with these bodies.
pub store_has : (version : Version) (live : Slot) (generation end : ℕ) (is_open : Bool) (held : Images)
    (bodies after : List (List ℕ)) (bytes : List ℕ) (end' : ℕ) → Rests version live generation end is_open held bodies
    → HasRecords bytes (number_of version) generation end' after → HasBodies (with_slot live held bytes) after
store_has One live generation end is_open held bodies after bytes end' rests has =
    let now : HasRecords bytes 1 1 end' after = subst (λ g. HasRecords bytes 1 g end' after) rests.rest.1 has in
    subst (λ slot. HasBodies (with_slot slot held bytes) after) (sym rests.rest.0) (inl (end', now))
store_has Two live generation end is_open held bodies after bytes end' rests has = inr (record {
  live = live;
  generation = generation;
  end = end';
  has = subst (λ (l : List ℕ). HasRecords l 2 generation end' after) (sym (at_with live held bytes)) has;
  above = rests.above;
  below = rests.below;
  rest = subst (λ (l : List ℕ). IsClosed l ⊎ IsOlder generation l) (sym (other_with live held bytes))
      (rest_of live is_open generation (at_slot (other live) held) rests.rest);
})

pub rests_with : (version : Version) (live : Slot) (generation end : ℕ) (is_open : Bool) (held : Images)
    (bodies after : List (List ℕ)) (bytes : List ℕ) (end' : ℕ) → Rests version live generation end is_open held bodies
    → HasRecords bytes (number_of version) generation end' after → Rests version live generation end' is_open
    (with_slot live held bytes) after
rests_with version live generation end is_open held bodies after bytes end' rests has = record {
  has = subst (λ (l : List ℕ). HasRecords l (number_of version) generation end' after) (sym (at_with live held bytes))
      has;
  rest = subst (λ (l : List ℕ). OtherRests version live generation is_open l) (sym (other_with live held bytes))
      rests.rest;
  above = rests.above;
  below = rests.below;
}

with_same : (slot : Slot) (images : Images) → with_slot slot images (at_slot slot images) ≡ images
with_same A images = refl
with_same B images = refl

-- what a log knows makes a store
pub rests_has : (version : Version) (live : Slot) (generation end : ℕ) (is_open : Bool) (held : Images)
    (bodies : List (List ℕ)) → Rests version live generation end is_open held bodies → HasBodies held bodies
rests_has version live generation end is_open held bodies rests =
    subst (λ i. HasBodies i bodies) (with_same live held)
    (store_has version live generation end is_open held bodies bodies (at_slot live held) end rests rests.has)
