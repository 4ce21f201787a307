-- A write to a slot and a sync of it; and a sync after another.
use Rattle.std.proofs.Common.{◌≡◌, ◌∙◌, ⊎_elim, sym, ap, ℕ, ◌≤◌, List, Option, Some, None}
use Rattle.std.proofs.lemmas.Bool.{cases_lt}
use Rattle.site_io.specs.Told.{BothTold, StaysTold}
use Rattle.site_io.specs.Disk.{Images, at_slot, with_slot, put, GoesOn, LeavesSame, LeavesTorn, LeavesHeld}
use Rattle.site_io.specs.Outside.{StaysKnown, EmitsNothing}
use Rattle.site_io.specs.declared.slot.Slot.{Slot}
use Rattle.gate_log.specs.Steps.{Puts}
use Rattle.gate_log.specs.Store.{other}
use Rattle.gate_log.proofs.Images.{other_with}

-- what a write that succeeded does
abbrev pub Wrote : Slot → ℕ → List ℕ → Images → Images → Type 0
Wrote slot at bytes old new = (new ≡ with_slot slot old (at_slot slot new))
    × (at_slot slot new ≡ put at bytes (at_slot slot old))

pub put_told : (slot : Slot) (at : ℕ) (bytes : List ℕ) (r0 r1 r2 : Option Images)
    → BothTold r0 r1 (Wrote slot at bytes) → StaysTold r1 r2 → BothTold r0 r2 (Puts slot at bytes)
put_told slot at bytes None None None wrote told = tt
put_told slot at bytes (Some x) (Some y) (Some z) wrote told = told ∙ wrote.0 ∙ ap (with_slot slot x) wrote.1
put_told slot at bytes None None (Some z) wrote told = absurd told
put_told slot at bytes None (Some y) r2 wrote told = absurd wrote
put_told slot at bytes (Some x) None r2 wrote told = absurd wrote
put_told slot at bytes (Some x) (Some y) None wrote told = absurd told

pub put_known : (slot : Slot) (at : ℕ) (bytes : List ℕ) (r0 r1 r2 : Option Images)
    → BothTold r0 r1 (Wrote slot at bytes) → StaysTold r1 r2 → StaysKnown r0 r2
put_known slot at bytes None None None wrote told = tt
put_known slot at bytes (Some x) (Some y) (Some z) wrote told = tt
put_known slot at bytes None None (Some z) wrote told = absurd told
put_known slot at bytes None (Some y) r2 wrote told = absurd wrote
put_known slot at bytes (Some x) None r2 wrote told = absurd wrote
put_known slot at bytes (Some x) (Some y) None wrote told = absurd told

pub torn_on : (slot : Slot) (at n : ℕ) (n0 n1 n2 : ℕ) (l0 l1 l2 : ℕ → Images → List ℕ → Type 0)
    → LeavesTorn slot at n n0 l0 l1 → GoesOn n0 n1 l0 l1 → GoesOn n1 n2 l1 l2 → LeavesSame n1 l1 l2
    → LeavesTorn slot at n n0 l0 l2
torn_on slot at n n0 n1 n2 l0 l1 l2 torn goes second_goes same t images out le left = ⊎_elim
    (λ lt. torn t images out le ((second_goes.earlier t images out lt).0 left))
    (λ ge. torn n1 images out goes.later (same t images out ge left))
    (cases_lt t n1)

pub torn_quiet : (slot : Slot) (at n n0 : ℕ) (l0 l1 : ℕ → Images → List ℕ → Type 0) → LeavesTorn slot at n n0 l0 l1
    → EmitsNothing n0 l0 l1
torn_quiet slot at n n0 l0 l1 torn t images out le left =
    let began = torn t images out le left in
    (with_slot slot images began.0, began.1)

-- what is durable of the slot that isn't written
pub other_held : (slot : Slot) (at n : ℕ) (bytes : List ℕ) (r0 r1 r2 : Option Images) (n0 n1 n2 : ℕ)
    (l0 l1 l2 : ℕ → Images → List ℕ → Type 0) → BothTold r0 r1 (Wrote slot at bytes) → StaysTold r1 r2
    → LeavesTorn slot at n n0 l0 l1 → n0 ≤ n1 → n1 ≤ n2 → LeavesSame n1 l1 l2 → LeavesHeld (other slot) r0 n0 l0
    → LeavesHeld (other slot) r2 n2 l2
other_held slot at n bytes None None None n0 n1 n2 l0 l1 l2 wrote told torn first second same held = tt
other_held slot at n bytes (Some x) (Some y) (Some z) n0 n1 n2 l0 l1 l2 wrote told torn first second same held
    = λ images out left.
    let began = torn n1 images out first (same n2 images out second left) in
    sym (other_with slot images began.0) ∙ held (with_slot slot images began.0) out began.1
    ∙ sym (other_with slot x (at_slot slot y)) ∙ ap (at_slot (other slot)) (sym wrote.0) ∙ ap (at_slot (other slot))
    (sym told)
other_held slot at n bytes None None (Some z) n0 n1 n2 l0 l1 l2 wrote told torn first second same held = absurd told
other_held slot at n bytes None (Some y) r2 n0 n1 n2 l0 l1 l2 wrote told torn first second same held = absurd wrote
other_held slot at n bytes (Some x) None r2 n0 n1 n2 l0 l1 l2 wrote told torn first second same held = absurd wrote
other_held slot at n bytes (Some x) (Some y) None n0 n1 n2 l0 l1 l2 wrote told torn first second same held = absurd told

-- what is durable of a slot, after a call that only looks
pub held_on : (slot : Slot) (r1 r2 : Option Images) (n1 n2 : ℕ) (l1 l2 : ℕ → Images → List ℕ → Type 0)
    → LeavesHeld slot r1 n1 l1 → StaysTold r1 r2 → n1 ≤ n2 → LeavesSame n1 l1 l2 → LeavesHeld slot r2 n2 l2
held_on slot None None n1 n2 l1 l2 held told later same = tt
held_on slot (Some y) (Some z) n1 n2 l1 l2 held told later same = λ images out left.
    held images out (same n2 images out later left) ∙ ap (at_slot slot) (sym told)
held_on slot None (Some z) n1 n2 l1 l2 held told later same = absurd told
held_on slot (Some y) None n1 n2 l1 l2 held told later same = absurd told
