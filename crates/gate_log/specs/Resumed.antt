-- What opening a store gives.
use Rattle.std.specs.Prelude.{◌≡◌, ℕ, List, false, Result, IfOk, IsErr, IsErrOf, IfSome}
use Rattle.site_io.specs.Counts.{HasRisen}
use Rattle.site_io.specs.Outside.{OnlyLooks}
use Rattle.site_io.specs.declared.site.Site.{Ghosts}
use Rattle.gate_log.specs.Counts.{Counts}
use Rattle.gate_log.specs.Faults.{OnlyNoStore}
use Rattle.gate_log.specs.Store.{HasBodies, IsBrokenStore, IsEmptyStore}
use Rattle.gate_log.specs.StoreOfLog.{RestsIn, StandsIn}
use Rattle.gate_log.specs.declared.fault.LogFault.{LogFault}
use Rattle.gate_log.specs.declared.fault.LogFault.TheVariants.{Empty, Broken, Site}
use Rattle.gate_log.specs.declared.log.Log.{Log}

-- A store was opened. What is answered beside its log shows its bodies.
pub record IsResumed {S T : Type 0} (site : Ghosts S) (old new : S) (result : Result (Log × T) LogFault)
    (shown : T → List (List ℕ)) : Type 0 where
  -- the slots hold what the log knows of them, and these bodies
  pub bodies : IfOk result (λ found. IfSome (site.reads old) (λ held. RestsIn found.0 held (shown found.1)))
  -- these are the store's bodies
  pub store : IfOk result (λ found. IfSome (site.reads old) (λ held. HasBodies held (shown found.1)))
  -- and the slots represent no others
  pub only : IfOk result (λ found. IfSome (site.reads old) (λ held. (others : List (List ℕ)) → HasBodies held others
      → others ≡ shown found.1))
  -- the lengths of the first body and of those after it
  pub counts : IfOk result (λ found. Counts found.0.first found.0.behind (shown found.1))
  -- Empty only where neither slot is open
  pub empty : IsErrOf result Empty → IfSome (site.reads old) IsEmptyStore
  -- Broken only where one is, and the slots represent no bodies
  pub broken : IsErrOf result Broken → IfSome (site.reads old) IsBrokenStore
  -- a store that has bodies gives neither of the two
  pub complete : IfSome (site.reads old) (λ held. (bodies : List (List ℕ)) → HasBodies held bodies
      → ¬ IsErrOf result Empty × ¬ IsErrOf result Broken)
  -- an empty one gives neither Broken nor Ok
  pub complete_empty : IfSome (site.reads old) (λ held. IsEmptyStore held → IsErr result × ¬ IsErrOf result Broken)
  -- the log may be called
  pub stands : IfOk result (λ found. StandsIn found.0 (site.reads new) (site.now new) (site.left new))
  pub unspent : IfOk result (λ found. found.0.spent ≡ false)
  -- no other fault than Empty, Broken, Site and Memory
  pub faults : OnlyNoStore result
  -- nothing is written
  pub outside : OnlyLooks site old new
  -- Site only where the count of the slots' faults tells it
  pub cause : IsErrOf result Site → HasRisen (site.slot_faults old) (site.slot_faults new)
