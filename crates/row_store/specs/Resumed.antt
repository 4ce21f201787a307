-- What opening a store gives.
use Rattle.std.specs.Prelude.{◌≡◌, ℕ, List, false, Result, Vec, IfOk, IsErr, IsErrOf, IfSome}
use Rattle.std.specs.declared.alloc.Global.{Global}
use Rattle.site_io.specs.Counts.{HasRisen}
use Rattle.site_io.specs.Outside.{OnlyLooks}
use Rattle.site_io.specs.declared.site.Site.{Ghosts}
use Rattle.gate_log.specs.Counts.{Counts}
use Rattle.gate_log.specs.Store.{HasBodies, IsEmptyStore}
use Rattle.row_store.specs.Faults.{OnlyNoStore}
use Rattle.row_store.specs.Rows.{HasTable, HoldsTable, IsBrokenTable, StandsIn}
use Rattle.row_store.specs.Table.{Table, SameTable, AreListed, table_of}
use Rattle.row_store.specs.declared.fault.StoreFault.{StoreFault}
use Rattle.row_store.specs.declared.fault.StoreFault.TheVariants.{Empty, Broken, Site}
use Rattle.row_store.specs.declared.row.Row.{Row}
use Rattle.row_store.specs.declared.store.Store.{Store}

-- A store was opened, and its rows given.
pub record IsResumed {S : Type 0} (site : Ghosts S) (old new : S) (result : Result (Store × Vec Row Global) StoreFault)
    : Type 0 where
  -- the slots hold what the store knows of them, and the table that these rows leave
  pub rows : IfOk result (λ found. IfSome (site.reads old) (λ held. HoldsTable found.0 held (table_of found.1.items)))
  -- they come by rising kind and number, none twice, each with a body
  pub listed : IfOk result (λ found. AreListed found.1.items)
  -- the slots have no other table
  pub only : IfOk result (λ found. IfSome (site.reads old) (λ held. (table : Table) → HasTable held table
      → SameTable (table_of found.1.items) table))
  -- the store's log counts the bodies that the slots have
  pub counts : IfOk result (λ found. IfSome (site.reads old) (λ held. (bodies : List (List ℕ)) × HasBodies held bodies
      × Counts found.0.log.first found.0.log.behind bodies))
  -- Empty only where neither slot is open
  pub empty : IsErrOf result Empty → IfSome (site.reads old) IsEmptyStore
  -- Broken only where one is, and the slots have no table
  pub broken : IsErrOf result Broken → IfSome (site.reads old) IsBrokenTable
  -- a store that has a table gives neither of the two
  pub complete : IfSome (site.reads old) (λ held. (table : Table) → HasTable held table
      → ¬ IsErrOf result Empty × ¬ IsErrOf result Broken)
  -- an empty one gives neither Broken nor Ok
  pub complete_empty : IfSome (site.reads old) (λ held. IsEmptyStore held → IsErr result × ¬ IsErrOf result Broken)
  -- the store may be called
  pub stands : IfOk result (λ found. StandsIn found.0 (site.reads new) (site.now new) (site.left new))
  pub unspent : IfOk result (λ found. found.0.log.spent ≡ false)
  -- no other fault than Empty, Broken, Site and Memory
  pub faults : OnlyNoStore result
  -- nothing is written
  pub outside : OnlyLooks site old new
  -- Site only where the count of the slots' faults tells it
  pub cause : IsErrOf result Site → HasRisen (site.slot_faults old) (site.slot_faults new)
