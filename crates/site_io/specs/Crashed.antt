-- What a crash leaves of a slot of a site in memory, to the byte.
use Rattle.std.specs.Prelude.{◌≡◌, ◌⊎◌, ℕ, ◌-◌, List, [], ◌∷◌, ◌++◌, length, take, All, Bool, true, false}
use Rattle.site_io.specs.Disk.{put}
use Rattle.site_io.specs.Calls.{held_by, said_by}
use Rattle.site_io.specs.declared.slot.Slot.{Slot}
use Rattle.site_io.specs.declared.slot.Slot.TheVariants.{A, B}
use Rattle.site_io.specs.declared.call.Call.{Call}
use Rattle.site_io.specs.declared.call.Call.TheVariants.{Write, Sync, Emit, Other}
use Rattle.site_io.specs.declared.mem_site.MemSite.{MemSite}
use Rattle.site_io.specs.declared.crash.Crash.{Crash}

-- whether a call synced this slot
abbrev pub synced_in : Slot → Call → Bool
synced_in A (Sync A) = true
synced_in A (Sync B) = false
synced_in B (Sync A) = false
synced_in B (Sync B) = true
synced_in slot (Write written at bytes) = false
synced_in slot (Emit bytes) = false
synced_in slot Other = false

-- a slot after a call, where the first so many bytes of a write come to it
abbrev pub kept_after : Slot → ℕ → List ℕ → Call → List ℕ
kept_after A most held (Write A at bytes) = put at (take most bytes.items) held
kept_after B most held (Write B at bytes) = put at (take most bytes.items) held
kept_after A most held (Write B at bytes) = held
kept_after B most held (Write A at bytes) = held
kept_after slot most held (Sync synced) = held
kept_after slot most held (Emit bytes) = held
kept_after slot most held Other = held

-- how many of so many bytes are left after a call
abbrev pub left_after : Slot → ℕ → Call → ℕ
left_after A most (Write A at bytes) = most - length bytes.items
left_after B most (Write B at bytes) = most - length bytes.items
left_after A most (Write B at bytes) = most
left_after B most (Write A at bytes) = most
left_after slot most (Sync synced) = most
left_after slot most (Emit bytes) = most
left_after slot most Other = most

-- a slot after calls, where the first so many bytes of all its writes together come to it, in order
abbrev pub kept_by : Slot → ℕ → List ℕ → List Call → List ℕ
kept_by slot most held [] = held
kept_by slot most held (call ∷ calls) = kept_by slot (left_after slot most call) (kept_after slot most held call) calls

-- no calls, or the last of them synced this slot
abbrev pub EndsInSync : Slot → List Call → Type 0
EndsInSync slot calls = (calls ≡ []) ⊎ ((before : List Call) × (call : Call) × (calls ≡ before ++ call ∷ [])
    × (synced_in slot call ≡ true))

-- What a crash after calls leaves of a slot that held this at first: what it held at its last sync, with the first
-- bytes of its later writes, so many of them in all.
pub record CrashedTo (slot : Slot) (first : List ℕ) (calls : List Call) (kept : ℕ) (image : List ℕ) : Type 0 where
  pub until : List Call
  pub later : List Call
  pub all : calls ≡ until ++ later
  pub last : EndsInSync slot until
  pub none : All (λ call. synced_in slot call ≡ false) later
  pub bytes : image ≡ kept_by slot kept (held_by slot first until) later

-- What a crash of a site leaves after its first calls, so many of them.
pub record Crashes (site : MemSite) (calls kept : ℕ) (crash : Crash) : Type 0 where
  pub in_a : CrashedTo A site.disk.first_a.items (take calls site.disk.done.items) kept crash.a.items
  pub in_b : CrashedTo B site.disk.first_b.items (take calls site.disk.done.items) kept crash.b.items
  pub said : crash.out.items ≡ said_by (take calls site.disk.done.items)
