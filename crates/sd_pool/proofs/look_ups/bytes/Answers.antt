use Rattle.std.proofs.Common.{◌≡◌, ℕ, ◌+◌, ◌*◌, ◌<◌, ◌≤◌, Some, List, length, get_or, ap, sym, subst, ◌∙◌, arith}
use Rattle.sd_pool.specs.declared.slot.Slot.{Slot}
use Rattle.sd_pool.specs.Blocks.{blocks_for, Extent}
use Rattle.sd_pool.specs.Slots.{bytes_of, extent_in}
use Rattle.sd_pool.proofs.Slotted.{slot_within, slot_used, slot_found, within_at, len_fits}
use Rattle.sd_pool.proofs.look_ups.bytes.Goals as goal

pub slot_at-slot-requires : goal.slot_at-slot-requires
slot_at-slot-requires c = subst (λ (xs : List Slot). c.args.id < length xs) (sym c.deref.ensures.value)
    (slot_within c.args.id c.args.parts.now.region.items c.args.parts.now.slots.items c.requires.live)

pub bytes_in-requires : goal.bytes_in-requires
bytes_in-requires c =
    let parts = c.args.parts.now in
    let slot : Slot = c.slot_at-slot.result in
    let is : slot ≡ get_or parts.slots.items c.args.id slot = c.slot_at-slot.ensures slot
    ∙ ap (λ (xs : List Slot). get_or xs c.args.id slot) c.deref.ensures.value in
    let lt = slot_within c.args.id parts.region.items parts.slots.items c.requires.live in
    let inside : (get_or parts.slots.items c.args.id slot).block
    + blocks_for (get_or parts.slots.items c.args.id slot).len ≤ parts.blocks = within_at parts.blocks c.args.id
    parts.slots.items slot c.requires.kept.laid.within lt
    (slot_used c.args.id parts.region.items parts.slots.items slot c.requires.live) in
    let own : slot.block + blocks_for slot.len ≤ parts.blocks
    = subst (λ (s : Slot). s.block + blocks_for s.len ≤ parts.blocks) (sym is) inside in
    let long : 64 * parts.blocks ≤ length c.deref-2.result.now
    = subst (λ (xs : List ℕ). 64 * parts.blocks ≤ length xs) (sym c.deref-2.ensures.value)
    c.requires.kept.laid.region in
    let len : slot.len ≤ 64 * blocks_for slot.len = len_fits slot.len in
    omega (arith, own, long, len)

pub returns : goal.returns
returns c = λ x found.
    let parts = c.args.parts.now in
    let slot : Slot = c.slot_at-slot.result in
    let is : slot ≡ get_or parts.slots.items c.args.id slot = c.slot_at-slot.ensures slot
    ∙ ap (λ (xs : List Slot). get_or xs c.args.id slot) c.deref.ensures.value in
    let there = slot_found c.args.id parts.region.items parts.slots.items slot c.requires.live in
    let same : Some (extent_in parts.region.items c.args.id (get_or parts.slots.items c.args.id slot)) ≡ Some x
    = sym there ∙ found in
    let one : extent_in parts.region.items c.args.id (get_or parts.slots.items c.args.id slot) ≡ x = cc in
    c.bytes_in.ensures
    ∙ ap (λ (r : List ℕ). bytes_of r slot) c.deref-2.ensures.value
    ∙ ap (bytes_of parts.region.items) is
    ∙ ap (λ (e : Extent). e.bytes) one
