-- The faults of making an engine.
use Rattle.std.specs.Prelude.{◌⊎◌, ◌<◌, length, Result, IfErr, IfSome, IsErrOf}
use Rattle.site_io.specs.Counts.{HasRisen}
use Rattle.site_io.specs.Disk.{LeavesSame}
use Rattle.site_io.specs.Outside.{TouchesSlots}
use Rattle.site_io.specs.Told.{StaysTold}
use Rattle.site_io.specs.declared.site.Site.{Ghosts}
use Rattle.row_store.specs.declared.fault.StoreFault.{StoreFault}
use Rattle.row_store.specs.declared.fault.StoreFault.TheVariants as store
use Rattle.ad_engine_store.specs.declared.engine_fault.EngineFault.{EngineFault}
use Rattle.ad_engine_store.specs.declared.engine_fault.EngineFault.TheVariants as engine
use Rattle.ad_engine_store.specs.declared.fault.OpenFault.{OpenFault}
use Rattle.ad_engine_store.specs.declared.fault.OpenFault.TheVariants.{Taken, Empty, Broken, Row, Unsound, Site, Memory}

-- no other fault than that a slot isn't empty, that the site failed, and want of memory
abbrev pub IsOfCreate : OpenFault → Type 0
IsOfCreate Taken = Unit {0}
IsOfCreate Empty = ⊥
IsOfCreate Broken = ⊥
IsOfCreate (Row kind number) = ⊥
IsOfCreate (Unsound number) = ⊥
IsOfCreate Site = Unit {0}
IsOfCreate Memory = Unit {0}

abbrev pub OnlyTaken : {T : Type 0} → Result T OpenFault → Type 0
OnlyTaken result = IfErr result IsOfCreate

-- What holds of each call that makes a store, whatever it answers.
pub record IsCreating {S T : Type 0} (site : Ghosts S) (old new : S) (result : Result T OpenFault) : Type 0 where
  pub taken : IsErrOf result Taken → IfSome (site.reads old) (λ held. (0 < length held.a) ⊎ (0 < length held.b))
  pub unwritten : IsErrOf result Taken ⊎ IsErrOf result Memory
      → StaysTold (site.reads old) (site.reads new) × LeavesSame (site.now old) (site.left old) (site.left new)
  pub faults : OnlyTaken result
  pub outside : TouchesSlots site old new
  pub cause : IsErrOf result Site → HasRisen (site.slot_faults old) (site.slot_faults new)

-- ---- a commit

abbrev pub of_commit : StoreFault → EngineFault
of_commit store.Taken = engine.Spent
of_commit store.Empty = engine.Spent
of_commit store.Broken = engine.Spent
of_commit store.Spent = engine.Spent
of_commit store.Site = engine.Site
of_commit store.Memory = engine.Memory
