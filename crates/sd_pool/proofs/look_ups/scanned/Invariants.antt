use Rattle.std.proofs.Common.{ℕ, ◌<◌}
use Rattle.sd_pool.specs.Kept.{IsHeldAt}
use Rattle.sd_pool.proofs.look_ups.scanned.Given as goal

-- none of the ids so far has the bytes
abbrev pub invariant-loop-id : goal.invariant-loop-id
invariant-loop-id l = (i : ℕ) → i < l.id → IsHeldAt l.parts.region.items l.parts.slots.items l.bytes i → ⊥
