-- What making an engine gives.
use Rattle.std.specs.Prelude.{◌≡◌, ◌⊎◌, ◌<◌, ℕ, List, [], length, false, Result, IfOk, OnOk, IsErrOf, IfSome}
use Rattle.site_io.specs.Counts.{HasRisen}
use Rattle.site_io.specs.Disk.{Images, LeavesSame}
use Rattle.site_io.specs.Outside.{TouchesSlots}
use Rattle.site_io.specs.Told.{StaysTold}
use Rattle.site_io.specs.declared.site.Site.{Ghosts}
use Rattle.ad_dir_model.specs.Directory.{Directory}
use Rattle.ad_rows_write.specs.Rows.{IsStoreOf}
use Rattle.ad_engine_store.specs.Faults.{OnlyTaken}
use Rattle.ad_engine_store.specs.Standing.{StandsIn}
use Rattle.ad_engine_store.specs.declared.dir_store.DirStore.{DirStore}
use Rattle.ad_engine_store.specs.declared.fault.OpenFault.{OpenFault}
use Rattle.ad_engine_store.specs.declared.fault.OpenFault.TheVariants.{Taken, Site, Memory}

-- An engine of a directory was made, and its store in two empty slots.
pub record IsCreated {S : Type 0} (site : Ghosts S) (old new : S) (given : Directory) (result : Result DirStore OpenFault)
    : Type 0 where
  -- at Ok it has the directory that was given
  pub dir : IfOk result (λ engine. engine.dir ≡ given)
  -- the engine may be called
  pub stands : IfOk result (λ engine. StandsIn engine (site.reads new) (site.now new) (site.left new))
  pub unspent : IfOk result (λ engine. engine.spent ≡ false)
  -- no connection has a token
  pub tokens : IfOk result (λ engine. engine.tokens ≡ [])
  -- at Ok the slots hold a store of it
  pub held : OnOk result (IfSome (site.reads new) (λ held. IsStoreOf held given))
  -- at Ok each crash from then on leaves a store of it
  pub every_crash : OnOk result (IfSome (site.reads new) (λ held. (images : Images) (out : List ℕ)
      → site.left new (site.now new) images out → IsStoreOf images given))
  -- Ok only where both slots were empty
  pub empty : OnOk result (IfSome (site.reads old) (λ held. (length held.a ≡ 0) × (length held.b ≡ 0)))
  -- Taken only where a slot wasn't
  pub taken : IsErrOf result Taken → IfSome (site.reads old) (λ held. (0 < length held.a) ⊎ (0 < length held.b))
  -- Taken and Memory come before anything is written
  pub unwritten : IsErrOf result Taken ⊎ IsErrOf result Memory
      → StaysTold (site.reads old) (site.reads new) × LeavesSame (site.now old) (site.left old) (site.left new)
  -- no other fault than Taken, Site and Memory
  pub faults : OnlyTaken result
  -- nothing but the slots is touched
  pub outside : TouchesSlots site old new
  -- Site only where the count of the slots' faults tells it
  pub cause : IsErrOf result Site → HasRisen (site.slot_faults old) (site.slot_faults new)
