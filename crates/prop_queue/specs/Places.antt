-- Where a parent stands.
use Rattle.std.specs.Prelude.{◌≡◌, ℕ, zero, suc, true, false, Option, None, Some, List, [], ◌∷◌}
use Rattle.prop_queue.specs.declared.pending.Pending.{Pending}
use Rattle.prop_queue.specs.Pending.{is_of, is_pending}

-- the parent stands first at this place
abbrev pub StandsAt : ℕ → ℕ → List Pending → Type 0
StandsAt parent place [] = ⊥
StandsAt parent zero (entry ∷ others) = is_of parent entry ≡ true
StandsAt parent (suc place) (entry ∷ others) = (is_of parent entry ≡ false) × StandsAt parent place others

-- it stands there, or nowhere
abbrev pub IsFoundAt : Option ℕ → ℕ → List Pending → Type 0
IsFoundAt None parent queue = is_pending parent queue ≡ false
IsFoundAt (Some place) parent queue = StandsAt parent place queue
