-- One step on a slot: a write and a sync.
use Rattle.std.specs.Prelude.{◌≡◌, ℕ, List}
use Rattle.site_io.specs.Disk.{Images, at_slot, with_slot, put}
use Rattle.site_io.specs.declared.slot.Slot.{Slot}

-- the slot has the bytes at the offset, and all else is as before
abbrev pub Puts : Slot → ℕ → List ℕ → Images → Images → Type 0
Puts slot at bytes old new = new ≡ with_slot slot old (put at bytes (at_slot slot old))
