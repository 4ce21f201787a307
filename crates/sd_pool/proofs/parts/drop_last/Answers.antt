use Rattle.std.proofs.Common.{◌≡◌, ℕ, ◌+◌, ◌*◌, ◌-◌, ◌<◌, ◌≤◌, List, length, refl, ap, sym, subst, ◌∙◌, arith}
use Rattle.std.specs.Prelude.{◌==◌, if◌then◌else◌}
use Rattle.sd_pool.specs.declared.slot.Slot.{Slot}
use Rattle.sd_pool.specs.declared.parts.Parts.{Parts}
use Rattle.sd_pool.specs.Kept.{live_of}
use Rattle.std.specs.Ordering.{nat_cmp}
use Rattle.std.specs.BTreeMap.{get}
use Rattle.sd_pool.specs.Blocks.{blocks_for}
use Rattle.sd_pool.specs.Slots.{extent_in, bytes_of}
use Rattle.sd_pool.specs.Holes.{given}
use Rattle.sd_pool.specs.Tallies.{hash, count_in}
use Rattle.sd_pool.proofs.Sharing.{given_back_last}
use Rattle.sd_pool.proofs.Slotted.{slot_within}
use Rattle.sd_pool.proofs.Keeping.{slot_is_found, slot_inside, slot_fits, some_live, some_of_hash, live-dropped}
use Rattle.sd_pool.proofs.Keeping.{kept-dropped}
use Rattle.sd_pool.proofs.parts.drop_last.Goals as goal

pub bytes_in-requires : goal.bytes_in-requires
bytes_in-requires c = subst (λ (xs : List ℕ). 64 * c.args.slot.block + c.args.slot.len ≤ length xs)
    (sym c.deref.ensures.value) (slot_fits c.args.parts.now c.args.id c.args.slot c.requires.kept c.requires.live
    (c.requires.slot c.args.slot))

pub count_off-requires : goal.count_off-requires
count_off-requires c =
    let parts : Parts = c.args.parts.now in
    let is : c.hash_of-hash.result ≡ hash (bytes_of parts.region.items c.args.slot) = c.hash_of-hash.ensures
    ∙ ap hash (c.bytes_in.ensures ∙ ap (λ (r : List ℕ). bytes_of r c.args.slot) c.deref.ensures.value) in
    subst (λ (h : ℕ). 0 < count_in (get nat_cmp parts.tallies h)) (sym is)
    (some_of_hash parts c.args.id c.args.slot c.requires.kept c.requires.live (c.requires.slot c.args.slot))

pub overflow_add-slot : goal.overflow_add-slot
overflow_add-slot c =
    let inside : c.args.slot.block + blocks_for c.args.slot.len ≤ c.args.parts.now.blocks
    = slot_inside c.args.parts.now c.args.id c.args.slot c.requires.kept c.requires.live
    (c.requires.slot c.args.slot) in
    let long : 64 * c.args.parts.now.blocks ≤ length c.deref.result.now
    = subst (λ (xs : List ℕ). 64 * c.args.parts.now.blocks ≤ length xs) (sym c.deref.ensures.value)
    c.requires.kept.laid.region in
    omega (arith, inside, long, c.blocks_of.ensures, c.deref.type_inv.0)

pub give_back-requires : goal.give_back-requires
give_back-requires c =
    let some : 1 ≤ c.args.parts.now.live = some_live c.args.parts.now c.args.id c.args.slot c.requires.kept
    c.requires.live (c.requires.slot c.args.slot) in
    omega (arith, some, c.requires.kept.laid.room)

pub set_slot-requires : goal.set_slot-requires
set_slot-requires c = slot_within c.args.id c.args.parts.now.region.items c.args.parts.now.slots.items c.requires.live

pub overflow_sub-parts : goal.overflow_sub-parts
overflow_sub-parts c = some_live c.args.parts.now c.args.id c.args.slot c.requires.kept c.requires.live
    (c.requires.slot c.args.slot)

pub returns-clause-kept : goal.returns-clause-kept
returns-clause-kept c =
    let parts : Parts = c.args.parts.now in
    let slot : Slot = c.args.slot in
    let free : Slot = record slot { sharers = 0 } in
    let some : 1 ≤ c.args.parts.now.live = some_live parts c.args.id slot c.requires.kept c.requires.live
    (c.requires.slot slot) in
    let hash_is : c.hash_of-hash.result ≡ hash (bytes_of parts.region.items slot) = c.hash_of-hash.ensures
    ∙ ap hash (c.bytes_in.ensures ∙ ap (λ (r : List ℕ). bytes_of r slot) c.deref.ensures.value) in
    kept-dropped parts c.set_slot.new.slots c.give_back.new.holes c.count_off.new.tallies c.min-parts.result
    (parts.live - 1) c.args.id slot slot free c.requires.kept c.requires.live (sym (c.requires.slot slot)) refl
    (c.set_slot.ensures)
    (omega (arith, c.min-parts.ensures)) (omega (arith, c.min-parts.ensures)) (omega (arith, some))
    (c.give_back.ensures.given ∙ ap (λ (n : ℕ). given slot.block (slot.block + n) parts.holes.items)
    c.blocks_of.ensures)
    c.give_back.ensures.capacity c.give_back.ensures.len
    (λ h. ap (λ (x : ℕ). (if x == h then 1 else 0) + count_in (get nat_cmp c.count_off.new.tallies h)) (sym hash_is)
    ∙ c.count_off.ensures h)

pub returns-clause-live : goal.returns-clause-live
returns-clause-live c =
    let parts : Parts = c.args.parts.now in
    let slot : Slot = c.args.slot in
    let free : Slot = record slot { sharers = 0 } in
    live-dropped parts c.set_slot.new.slots c.args.id slot free c.requires.live refl (c.set_slot.ensures)
    ∙ sym (given_back_last c.args.id (extent_in parts.region.items c.args.id slot) (live_of parts)
    (slot_is_found parts c.args.id slot c.requires.live (c.requires.slot slot)) c.requires.last)
