-- Reading slots and their records.
use Rattle.std.specs.Prelude.{◌≡◌, ◌≢◌, ◌⊎◌, ℕ, ◌≤◌, ◌<◌, ◌^◌, List, [], ◌∷◌, ◌++◌, length, take, drop, map, Option}
use Rattle.std.specs.Prelude.{Some, None, Vec, Bool, false, Result, IfOk, IsErrOf, IfSome}
use Rattle.std.specs.Int.{from_be_bytes, w64}
use Rattle.std.specs.declared.alloc.Global.{Global}
use Rattle.site_io.specs.Counts.{HasRisen}
use Rattle.site_io.specs.Disk.{Images, at_slot}
use Rattle.site_io.specs.Outside.{OnlyLooks}
use Rattle.site_io.specs.declared.site.Site.{Ghosts}
use Rattle.site_io.specs.declared.slot.Slot.{Slot}
use Rattle.site_io.specs.declared.slot.Slot.TheVariants.{A, B}
use Rattle.gate_log.specs.Counts.{Counts}
use Rattle.gate_log.specs.Layout.{opened, AreRecords, HasRecords}
use Rattle.gate_log.specs.Store.{number_of, IsClosed}
use Rattle.gate_log.specs.declared.fault.LogFault.{LogFault}
use Rattle.gate_log.specs.declared.fault.LogFault.TheVariants.{Taken, Empty, Broken, Spent, Site}
use Rattle.gate_log.specs.declared.log.Log.{Log}
use Rattle.gate_log.specs.declared.version.Version.{Version}

abbrev pub bodies_of : List (Vec ℕ Global) → List (List ℕ)
bodies_of bodies = map (λ body. body.items) bodies

-- the bytes begin with a closed gate, or with an open one and a record of this body
abbrev pub BeginsRecord : List ℕ → Option (List ℕ) → Type 0
BeginsRecord bytes None = (gate : ℕ) × (rest : List ℕ) × (bytes ≡ gate ∷ rest) × (gate ≢ 1)
BeginsRecord bytes (Some body) = (size rest : List ℕ) × (length size ≡ 8)
    × (from_be_bytes w64 size ≡ length body) × (bytes ≡ 1 ∷ size ++ body ++ rest)

-- the bytes are records of these bodies up to a place, and then a closed gate
pub record EndsRecords (bytes : List ℕ) (bodies : List (List ℕ)) (end : ℕ) : Type 0 where
  pub are : AreRecords bodies (take end bytes)
  pub within : end ≤ length bytes
  pub gate : ℕ
  pub junk : List ℕ
  pub layout : drop end bytes ≡ gate ∷ junk
  pub closed : gate ≢ 1

-- the bytes begin with records of these bodies, and then a closed gate
abbrev pub BeginRecords : List (List ℕ) → List ℕ → Type 0
BeginRecords [] bytes = IsClosed bytes
BeginRecords (body ∷ bodies) bytes = (size rest : List ℕ) × (length size ≡ 8)
    × (from_be_bytes w64 size ≡ length body) × (bytes ≡ 1 ∷ size ++ body ++ rest) × BeginRecords bodies rest

-- a slot that a store of version 2 may have: closed, or open with a head
abbrev pub IsSlotOfTwo : List ℕ → Type 0
IsSlotOfTwo bytes = IsClosed bytes ⊎ ((generation : ℕ) × (rest : List ℕ) × (0 < generation) × (generation < 2 ^ 64)
    × (bytes ≡ opened 2 generation rest))

-- an open slot of version 2 and a generation
pub record IsOpened (bytes : List ℕ) (generation : ℕ) : Type 0 where
  pub head : bytes ≡ opened 2 generation (drop 14 bytes)
  pub long : 14 ≤ length bytes
  pub above : 0 < generation
  pub below : generation < 2 ^ 64

-- what the slots begin with, a gate and a head of each
abbrev pub AreHeads : List ℕ → List ℕ → Images → Type 0
AreHeads a b images = (a ≡ take 14 images.a) × (b ≡ take 14 images.b)

-- the slot of the greater of two generations
abbrev pub IsNewer : Slot → ℕ → ℕ → ℕ → Type 0
IsNewer A generation in_a in_b = (generation ≡ in_a) × (in_b < in_a)
IsNewer B generation in_a in_b = (generation ≡ in_b) × (in_a < in_b)

-- The live slot was read, and the log of its records made.
pub record IsLive {S : Type 0} (site : Ghosts S) (old new : S) (version : Version) (live : Slot) (generation : ℕ)
    (other_open : Bool) (result : Result (Log × Vec (List ℕ) Global) LogFault) : Type 0 where
  pub broken : IsErrOf result Broken → IfSome (site.reads old) (λ held. (end : ℕ) (bodies : List (List ℕ))
      → ¬ HasRecords (at_slot live held) (number_of version) generation end bodies)
  pub records : IfOk result (λ found. IfSome (site.reads old) (λ held. HasRecords (at_slot live held)
      (number_of version) generation found.0.end found.1.items))
  pub counts : IfOk result (λ found. Counts found.0.first found.0.behind found.1.items)
  pub log : IfOk result (λ found. (found.0.version ≡ version) × (found.0.live ≡ live)
      × (found.0.generation ≡ generation) × (found.0.other_open ≡ other_open))
  pub unsettled : IfOk result (λ found. (found.0.settled ≡ false) × (found.0.spent ≡ false))
  pub only : ¬ IsErrOf result Taken × ¬ IsErrOf result Empty × ¬ IsErrOf result Spent
  pub outside : OnlyLooks site old new
  pub cause : IsErrOf result Site → HasRisen (site.slot_faults old) (site.slot_faults new)
