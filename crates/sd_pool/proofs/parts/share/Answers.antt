use Rattle.std.proofs.Common.{◌≡◌, ℕ, ◌+◌, ◌-◌, ◌^◌, ◌<◌, true, not, List, length, get_or, set, ap, sym, subst, ◌∙◌}
use Rattle.std.proofs.Common.{arith}
use Rattle.std.specs.Prelude.{◌==◌}
use Rattle.sd_pool.specs.declared.slot.Slot.{Slot}
use Rattle.sd_pool.specs.declared.parts.Parts.{Parts}
use Rattle.sd_pool.specs.Kept.{live_of}
use Rattle.std.proofs.lemmas.Bool.{ne_eqb}
use Rattle.std.proofs.Common.{Option}
use Rattle.std.specs.Option.{IfSome}
use Rattle.sd_pool.specs.Blocks.{Extent}
use Rattle.sd_pool.specs.Slots.{extent_in}
use Rattle.sd_pool.proofs.Sharing.{shared_is}
use Rattle.sd_pool.proofs.Slotted.{slot_within}
use Rattle.sd_pool.proofs.Keeping.{slot_is_found, live-sharers, kept-sharers}
use Rattle.sd_pool.proofs.parts.share.Goals as goal

some_more : (n : ℕ) → not (n + 1 == 0) ≡ true
some_more n = ap not (ne_eqb (n + 1) 0 (λ none. omega (arith, none)))

pub slot_at-slot-requires : goal.slot_at-slot-requires
slot_at-slot-requires c = subst (λ (xs : List Slot). c.args.id < length xs) (sym c.deref.ensures.value)
    (slot_within c.args.id c.args.parts.now.region.items c.args.parts.now.slots.items c.requires.live)

pub overflow_add-more : goal.overflow_add-more
overflow_add-more c =
    let parts : Parts = c.args.parts.now in
    let slot : Slot = c.slot_at-slot.result in
    let is : slot ≡ get_or parts.slots.items c.args.id slot = c.slot_at-slot.ensures slot
    ∙ ap (λ (xs : List Slot). get_or xs c.args.id slot) c.deref.ensures.value in
    let few : slot.sharers < 2 ^ 32 - 1 = subst
    (λ (o : Option Extent). IfSome o (λ (e : Extent). e.sharers < 2 ^ 32 - 1))
    (slot_is_found parts c.args.id slot c.requires.live is) c.requires.few in
    omega (arith, few)

pub set_slot-requires : goal.set_slot-requires
set_slot-requires c = slot_within c.args.id c.args.parts.now.region.items c.args.parts.now.slots.items c.requires.live

pub returns-clause-kept : goal.returns-clause-kept
returns-clause-kept c =
    let parts : Parts = c.args.parts.now in
    let slot : Slot = c.slot_at-slot.result in
    let is : slot ≡ get_or parts.slots.items c.args.id slot = c.slot_at-slot.ensures slot
    ∙ ap (λ (xs : List Slot). get_or xs c.args.id slot) c.deref.ensures.value in
    let new = c.set_slot.ensures ∙ ap (λ (s : Slot). set parts.slots.items c.args.id
    (record s { sharers = slot.sharers + 1 })) is in
    kept-sharers parts c.set_slot.new.slots c.args.id (slot.sharers + 1) slot c.requires.kept c.requires.live
    (some_more slot.sharers) new

pub returns-clause-live : goal.returns-clause-live
returns-clause-live c =
    let parts : Parts = c.args.parts.now in
    let slot : Slot = c.slot_at-slot.result in
    let is : slot ≡ get_or parts.slots.items c.args.id slot = c.slot_at-slot.ensures slot
    ∙ ap (λ (xs : List Slot). get_or xs c.args.id slot) c.deref.ensures.value in
    let new = c.set_slot.ensures ∙ ap (λ (s : Slot). set parts.slots.items c.args.id
    (record s { sharers = slot.sharers + 1 })) is in
    live-sharers parts c.set_slot.new.slots c.args.id (slot.sharers + 1) slot c.requires.live (some_more slot.sharers)
    new
    ∙ sym (shared_is c.args.id (extent_in parts.region.items c.args.id slot) (live_of parts)
    (slot_is_found parts c.args.id slot c.requires.live is))
