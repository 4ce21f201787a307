use Rattle.std.proofs.Common.{◌≡◌, ◌<◌, Some, List, length, get_or, ap, sym, subst, ◌∙◌}
use Rattle.sd_pool.specs.declared.slot.Slot.{Slot}
use Rattle.sd_pool.specs.Blocks.{Extent}
use Rattle.sd_pool.specs.Slots.{extent_in}
use Rattle.sd_pool.proofs.Slotted.{slot_within, slot_found}
use Rattle.sd_pool.proofs.look_ups.sharers.Goals as goal

pub slot_at-requires : goal.slot_at-requires
slot_at-requires c = subst (λ (xs : List Slot). c.args.id < length xs) (sym c.deref.ensures.value)
    (slot_within c.args.id c.args.parts.now.region.items c.args.parts.now.slots.items c.requires.live)

pub returns : goal.returns
returns c = λ x found.
    let parts = c.args.parts.now in
    let slot : Slot = c.slot_at.result in
    let is : slot ≡ get_or parts.slots.items c.args.id slot = c.slot_at.ensures slot
    ∙ ap (λ (xs : List Slot). get_or xs c.args.id slot) c.deref.ensures.value in
    let there = slot_found c.args.id parts.region.items parts.slots.items slot c.requires.live in
    let same : Some (extent_in parts.region.items c.args.id (get_or parts.slots.items c.args.id slot)) ≡ Some x
    = sym there ∙ found in
    let one : extent_in parts.region.items c.args.id (get_or parts.slots.items c.args.id slot) ≡ x = cc in
    ap (λ (s : Slot). s.sharers) is ∙ ap (λ (e : Extent). e.sharers) one
