-- What making a store gives.
use Rattle.std.specs.Prelude.{◌≡◌, ◌⊎◌, ℕ, List, length, false, Some, Result, IfOk, OnOk, IsErrOf, IfSome}
use Rattle.site_io.specs.Counts.{HasRisen}
use Rattle.site_io.specs.Disk.{Images, LeavesSame}
use Rattle.site_io.specs.Outside.{TouchesSlots}
use Rattle.site_io.specs.Told.{StaysTold}
use Rattle.site_io.specs.declared.site.Site.{Ghosts}
use Rattle.gate_log.specs.Created.{HasBytes}
use Rattle.gate_log.specs.declared.version.Version.TheVariants.{Two}
use Rattle.row_store.specs.Faults.{OnlyTaken}
use Rattle.row_store.specs.Row.{batch_size}
use Rattle.row_store.specs.Rows.{HasTable, HoldsTable, StandsIn}
use Rattle.row_store.specs.Table.{table_of}
use Rattle.row_store.specs.declared.fault.StoreFault.{StoreFault}
use Rattle.row_store.specs.declared.fault.StoreFault.TheVariants.{Taken, Site, Memory}
use Rattle.row_store.specs.declared.row.Row.{Row}
use Rattle.row_store.specs.declared.store.Store.{Store}

-- A store of the table that rows leave was made in two empty slots.
pub record IsCreated {S : Type 0} (site : Ghosts S) (old new : S) (rows : List Row) (result : Result Store StoreFault)
    : Type 0 where
  -- at Ok the slots hold what the store knows of them, and this table
  pub created : IfOk result (λ store. IfSome (site.reads new) (λ held. HoldsTable store held (table_of rows)))
  -- the store may be called
  pub stands : IfOk result (λ store. StandsIn store (site.reads new) (site.now new) (site.left new))
  -- at Ok each crash from then on leaves this table
  pub every_crash : OnOk result (IfSome (site.reads new) (λ held. (images : Images) (out : List ℕ)
      → site.left new (site.now new) images out → HasTable images (table_of rows)))
  -- where the store begins
  pub generation : IfOk result (λ store. (store.log.generation ≡ 1) × (store.log.version ≡ Two))
  -- the lengths of the first body and of those after it
  pub counts : IfOk result (λ store. (store.log.first ≡ Some (batch_size rows)) × (store.log.behind ≡ 0))
  pub unspent : IfOk result (λ store. store.log.spent ≡ false)
  -- Ok only where both slots were empty
  pub empty : OnOk result (IfSome (site.reads old) (λ held. (length held.a ≡ 0) × (length held.b ≡ 0)))
  -- Taken only where a slot wasn't
  pub taken : IsErrOf result Taken → IfSome (site.reads old) HasBytes
  -- Taken and Memory come before anything is written
  pub unwritten : IsErrOf result Taken ⊎ IsErrOf result Memory
      → StaysTold (site.reads old) (site.reads new) × LeavesSame (site.now old) (site.left old) (site.left new)
  -- no other fault than Taken, Site and Memory
  pub faults : OnlyTaken result
  -- nothing but the slots is touched
  pub outside : TouchesSlots site old new
  -- Site only where the count of the slots' faults tells it
  pub cause : IsErrOf result Site → HasRisen (site.slot_faults old) (site.slot_faults new)
