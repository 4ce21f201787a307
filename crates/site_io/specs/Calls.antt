-- What a record of calls leaves of the slots, and what a crash after it may leave.
use Rattle.std.specs.Prelude.{◌≡◌, ℕ, ◌≤◌, List, [], ◌∷◌, ◌++◌, length, take}
use Rattle.site_io.specs.Disk.{Images, Torn, put}
use Rattle.site_io.specs.declared.slot.Slot.{Slot}
use Rattle.site_io.specs.declared.slot.Slot.TheVariants.{A, B}
use Rattle.site_io.specs.declared.call.Call.{Call}
use Rattle.site_io.specs.declared.call.Call.TheVariants.{Write, Sync, Emit, Other}

-- what a call leaves of a slot
abbrev pub held_after : Slot → List ℕ → Call → List ℕ
held_after A held (Write A at bytes) = put at bytes.items held
held_after B held (Write B at bytes) = put at bytes.items held
held_after A held (Write B at bytes) = held
held_after B held (Write A at bytes) = held
held_after slot held (Sync synced) = held
held_after slot held (Emit bytes) = held
held_after slot held Other = held

-- what calls leave of a slot that held this at first
abbrev pub held_by : Slot → List ℕ → List Call → List ℕ
held_by slot held [] = held
held_by slot held (call ∷ calls) = held_by slot (held_after slot held call) calls

-- what one call emits
abbrev pub said_in : Call → List ℕ
said_in (Emit bytes) = bytes.items
said_in (Write slot at bytes) = []
said_in (Sync slot) = []
said_in Other = []

-- what calls emit
abbrev pub said_by : List Call → List ℕ
said_by [] = []
said_by (call ∷ calls) = said_in call ++ said_by calls

-- What a crash after a call may leave of a slot that held this, where a crash before it left what has P. Each write
-- may be torn until the slot is synced.
abbrev pub MayLeaveAfter : Slot → List ℕ → (List ℕ → Type 0) → Call → List ℕ → Type 0
MayLeaveAfter A held P (Write A at bytes) image = (old : List ℕ) × P old × Torn at (length bytes.items) old image
MayLeaveAfter B held P (Write B at bytes) image = (old : List ℕ) × P old × Torn at (length bytes.items) old image
MayLeaveAfter A held P (Sync A) image = image ≡ held
MayLeaveAfter B held P (Sync B) image = image ≡ held
MayLeaveAfter A held P (Write B at bytes) image = P image
MayLeaveAfter B held P (Write A at bytes) image = P image
MayLeaveAfter A held P (Sync B) image = P image
MayLeaveAfter B held P (Sync A) image = P image
MayLeaveAfter slot held P (Emit bytes) image = P image
MayLeaveAfter slot held P Other image = P image

-- what a crash after calls may leave
abbrev pub MayLeave : Slot → List ℕ → (List ℕ → Type 0) → List Call → List ℕ → Type 0
MayLeave slot held P [] image = P image
MayLeave slot held P (call ∷ calls) image = MayLeave slot (held_after slot held call) (MayLeaveAfter slot held P call)
    calls image

-- What a crash after the first t calls may leave, where the slots held a and b at first, on the disk.
pub record LeftAt (a b : List ℕ) (calls : List Call) (t : ℕ) (images : Images) (out : List ℕ) : Type 0 where
  pub so_many : t ≤ length calls
  pub in_a : MayLeave A a (λ image. image ≡ a) (take t calls) images.a
  pub in_b : MayLeave B b (λ image. image ≡ b) (take t calls) images.b
  pub said : out ≡ said_by (take t calls)
