use Rattle.std.proofs.Common.{refl, subst, sym, ◌≡◌, true, ℕ, List}
use Rattle.site_io.specs.Disk.{Images, at_slot}
use Rattle.site_io.specs.declared.slot.Slot.TheVariants.{A, B}
use Rattle.gate_log.specs.Reading.{AreHeads, IsNewer, IsOpened, IsSlotOfTwo}
use Rattle.gate_log.specs.Layout.{HasRecords}
use Rattle.gate_log.specs.Store.{other, HasBodiesTwo, IsClosed, OtherRests}
use Rattle.gate_log.specs.declared.version.Version.TheVariants.{Two}
use Rattle.gate_log.proofs.Heads.{closed_whole, opened_whole, slot_of_head}
use Rattle.gate_log.proofs.Opening.{ok_then, newer_rests, newer_refused}
use Rattle.gate_log.proofs.Refusing.{slots_of_two, alone}
use Rattle.gate_log.proofs.resume.live_of.Goals as goal

pub returns-in_err-in_a-clause-broken : goal.returns-in_err-in_a-clause-broken
returns-in_err-in_a-clause-broken c = λ is images heads bodies two.
    c.in_err-in_a.ensures.broken refl (subst IsSlotOfTwo (sym heads.0)
    (slot_of_head images.a (slots_of_two images bodies two A)))

pub returns-in_err-in_b-clause-broken : goal.returns-in_err-in_b-clause-broken
returns-in_err-in_b-clause-broken c = λ is images heads bodies two.
    c.in_err-in_b.ensures.broken refl (subst IsSlotOfTwo (sym heads.1)
    (slot_of_head images.b (slots_of_two images bodies two B)))

pub returns-in-Some-None-clause-none : goal.returns-in-Some-None-clause-none
returns-in-Some-None-clause-none c = λ images heads none bodies.
    alone images bodies A c.in-Some-None.g
    (opened_whole images.a c.in-Some-None.g
    (subst (λ l. IsOpened l c.in-Some-None.g) heads.0 (rw c.in-Some-None.is-0 at c.in_ok-in_a.ensures.slot)))
    (closed_whole images.b (subst IsClosed heads.1 (rw c.in-Some-None.is-1 at c.in_ok-in_b.ensures.slot))) none

pub returns-in-None-Some-clause-none : goal.returns-in-None-Some-clause-none
returns-in-None-Some-clause-none c = λ images heads none bodies.
    alone images bodies B c.in-None-Some.h
    (opened_whole images.b c.in-None-Some.h
    (subst (λ l. IsOpened l c.in-None-Some.h) heads.1 (rw c.in-None-Some.is-1 at c.in_ok-in_b.ensures.slot)))
    (closed_whole images.a (subst IsClosed heads.0 (rw c.in-None-Some.is-0 at c.in_ok-in_a.ensures.slot))) none

pub returns-in-Some-Some-clause-live : goal.returns-in-Some-Some-clause-live
returns-in-Some-Some-clause-live c =
    let g = c.in-Some-Some.g in
    let h = c.in-Some-Some.h in
    ok_then c.newer_of.result (λ live. (live.other_open ≡ true) × IsNewer live.slot live.generation g h)
    (λ live. (images : Images) → AreHeads c.args.a.now c.args.b.now images → OtherRests Two live.slot live.generation
    live.other_open (at_slot (other live.slot) images) × IsOpened (at_slot live.slot images) live.generation)
    c.newer_of.ensures.newer (λ live newer images heads.
    newer_rests images g h live.slot live.generation live.other_open
    (opened_whole images.a g (subst (λ l. IsOpened l g) heads.0 (rw c.in-Some-Some.is-0 at c.in_ok-in_a.ensures.slot)))
    (opened_whole images.b h (subst (λ l. IsOpened l h) heads.1
    (rw c.in-Some-Some.is-1 at c.in_ok-in_b.ensures.slot))) newer.0 newer.1)

pub returns-in-Some-Some-clause-none : goal.returns-in-Some-Some-clause-none
returns-in-Some-Some-clause-none c =
    let g = c.in-Some-Some.g in
    let h = c.in-Some-Some.h in
    ok_then c.newer_of.result (λ live. (live.other_open ≡ true) × IsNewer live.slot live.generation g h)
    (λ live. (images : Images) → AreHeads c.args.a.now c.args.b.now images
    → ((end : ℕ) (bodies : List (List ℕ)) → HasRecords (at_slot live.slot images) 2 live.generation end bodies
    → ⊥) → (bodies : List (List ℕ)) → HasBodiesTwo images bodies → ⊥)
    c.newer_of.ensures.newer (λ live newer images heads none bodies.
    newer_refused images bodies g h live.slot live.generation
    (opened_whole images.a g (subst (λ l. IsOpened l g) heads.0 (rw c.in-Some-Some.is-0 at c.in_ok-in_a.ensures.slot)))
    (opened_whole images.b h (subst (λ l. IsOpened l h) heads.1
    (rw c.in-Some-Some.is-1 at c.in_ok-in_b.ensures.slot))) newer.1 none)
