-- What crashes leave during a call.
use Rattle.std.specs.Prelude.{ℕ, ◌≤◌, List, Option}
use Rattle.site_io.specs.Disk.{Images, GoesOn, LeavesHeld}
use Rattle.site_io.specs.declared.slot.Slot.TheVariants.{A, B}

-- At each moment since the call began a crash leaves states that have P, and what had been emitted then.
pub record Leaves (before after : ℕ) (old new : ℕ → Images → List ℕ → Type 0) (P : Images → Type 0) : Type 0 where
  pub moments : GoesOn before after old new
  pub each : (t : ℕ) (images : Images) (out : List ℕ) → before ≤ t → new t images out → P images
  pub output : (t : ℕ) (images : Images) (out : List ℕ) → before ≤ t → new t images out → (began : Images)
      × old before began out

-- A crash now leaves what a read gives.
abbrev pub LastsWhole : Option Images → ℕ → (ℕ → Images → List ℕ → Type 0) → Type 0
LastsWhole reads now left = LeavesHeld A reads now left × LeavesHeld B reads now left

-- crash states that a crash could leave as the call began
abbrev pub Began : ℕ → (ℕ → Images → List ℕ → Type 0) → Images → Type 0
Began before old images = (out : List ℕ) × old before images out
