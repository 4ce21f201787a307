-- What making a store gives.
use Rattle.std.specs.Prelude.{◌≡◌, ◌⊎◌, ◌<◌, ℕ, List, [], ◌∷◌, length, false, Some, Result, IfOk, OnOk, IsErr}
use Rattle.std.specs.Prelude.{IsErrOf, IfSome}
use Rattle.site_io.specs.Counts.{HasRisen}
use Rattle.site_io.specs.Disk.{Images, LeavesSame}
use Rattle.site_io.specs.Outside.{TouchesSlots}
use Rattle.site_io.specs.Told.{StaysTold}
use Rattle.site_io.specs.declared.site.Site.{Ghosts}
use Rattle.gate_log.specs.Faults.{OnlyTaken}
use Rattle.gate_log.specs.Store.{HasBodies}
use Rattle.gate_log.specs.StoreOfLog.{RestsIn, StandsIn}
use Rattle.gate_log.specs.declared.fault.LogFault.{LogFault}
use Rattle.gate_log.specs.declared.fault.LogFault.TheVariants.{Taken, Site, Memory}
use Rattle.gate_log.specs.declared.log.Log.{Log}
use Rattle.gate_log.specs.declared.version.Version.TheVariants.{Two}

-- a slot isn't empty
abbrev pub HasBytes : Images → Type 0
HasBytes held = (0 < length held.a) ⊎ (0 < length held.b)

-- A store of one body was begun in two slots, whatever these held.
pub record IsBegun {S E : Type 0} (site : Ghosts S) (old new : S) (body : List ℕ) (result : Result Log E) : Type 0 where
  pub created : IfOk result (λ log. IfSome (site.reads new) (λ held. RestsIn log held (body ∷ [])))
  pub stands : IfOk result (λ log. StandsIn log (site.reads new) (site.now new) (site.left new))
  pub every_crash : OnOk result (IfSome (site.reads new) (λ held. (images : Images) (out : List ℕ)
      → site.left new (site.now new) images out → HasBodies images (body ∷ [])))
  pub generation : IfOk result (λ log. (log.generation ≡ 1) × (log.version ≡ Two))
  pub counts : IfOk result (λ log. (log.first ≡ Some (length body)) × (log.behind ≡ 0))
  pub unspent : IfOk result (λ log. log.spent ≡ false)
  pub outside : TouchesSlots site old new
  pub cause : IsErr result → HasRisen (site.slot_faults old) (site.slot_faults new)

-- A store of one body was made in two empty slots.
pub record IsCreated {S : Type 0} (site : Ghosts S) (old new : S) (body : List ℕ) (result : Result Log LogFault)
    : Type 0 where
  -- at Ok the slots hold what the log knows of them, and this body
  pub created : IfOk result (λ log. IfSome (site.reads new) (λ held. RestsIn log held (body ∷ [])))
  -- the log may be called
  pub stands : IfOk result (λ log. StandsIn log (site.reads new) (site.now new) (site.left new))
  -- at Ok each crash from then on leaves a store that has this body alone
  pub every_crash : OnOk result (IfSome (site.reads new) (λ held. (images : Images) (out : List ℕ)
      → site.left new (site.now new) images out → HasBodies images (body ∷ [])))
  -- where the store begins
  pub generation : IfOk result (λ log. (log.generation ≡ 1) × (log.version ≡ Two))
  -- the lengths of the first body and of those after it
  pub counts : IfOk result (λ log. (log.first ≡ Some (length body)) × (log.behind ≡ 0))
  pub unspent : IfOk result (λ log. log.spent ≡ false)
  -- Ok only where both slots were empty
  pub empty : OnOk result (IfSome (site.reads old) (λ held. (length held.a ≡ 0) × (length held.b ≡ 0)))
  -- Taken only where a slot wasn't
  pub taken : IsErrOf result Taken → IfSome (site.reads old) HasBytes
  -- and there nothing else comes, but that the site failed
  pub taken_only : IfSome (site.reads old) (λ held. HasBytes held → IsErrOf result Taken ⊎ IsErrOf result Site)
  -- Taken and Memory come before anything is written
  pub unwritten : IsErrOf result Taken ⊎ IsErrOf result Memory
      → StaysTold (site.reads old) (site.reads new) × LeavesSame (site.now old) (site.left old) (site.left new)
  -- no other fault than Taken, Site and Memory
  pub faults : OnlyTaken result
  -- nothing but the slots is touched
  pub outside : TouchesSlots site old new
  -- Site only where the count of the slots' faults tells it
  pub cause : IsErrOf result Site → HasRisen (site.slot_faults old) (site.slot_faults new)
