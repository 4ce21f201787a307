use Rattle.std.proofs.Common.{◌<◌, List, length, sym, subst}
use Rattle.sd_pool.specs.declared.slot.Slot.{Slot}
use Rattle.sd_pool.proofs.Slotted.{slot_within}
use Rattle.sd_pool.proofs.parts.give_back.Goals as goal

pub slot_at-slot-requires : goal.slot_at-slot-requires
slot_at-slot-requires c = subst (λ (xs : List Slot). c.args.id < length xs) (sym c.deref.ensures.value)
    (slot_within c.args.id c.args.parts.now.region.items c.args.parts.now.slots.items c.requires.live)
