-- The faults of a store.
use Rattle.std.specs.Prelude.{Result, IsErrOf}
use Rattle.gate_log.specs.declared.fault.LogFault.{LogFault}
use Rattle.gate_log.specs.declared.fault.LogFault.TheVariants as log
use Rattle.row_store.specs.declared.fault.StoreFault.{StoreFault}
use Rattle.row_store.specs.declared.fault.StoreFault.TheVariants.{Taken, Empty, Broken, Spent, Site, Memory}
use Rattle.row_store.specs.declared.reading.RowFault.{RowFault}
use Rattle.row_store.specs.declared.reading.RowFault.TheVariants as rows

abbrev pub of_log : LogFault → StoreFault
of_log log.Taken = Taken
of_log log.Empty = Empty
of_log log.Broken = Broken
of_log log.Spent = Spent
of_log log.Site = Site
of_log log.Memory = Memory

abbrev pub of_rows : RowFault → StoreFault
of_rows rows.Bad = Broken
of_rows rows.Memory = Memory

-- no other fault than want of memory and a failure of the site, and that the store is poisoned
abbrev pub OnlySpent : {T : Type 0} → Result T StoreFault → Type 0
OnlySpent result = ¬ IsErrOf result Taken × ¬ IsErrOf result Empty × ¬ IsErrOf result Broken

-- or that a slot isn't empty
abbrev pub OnlyTaken : {T : Type 0} → Result T StoreFault → Type 0
OnlyTaken result = ¬ IsErrOf result Empty × ¬ IsErrOf result Broken × ¬ IsErrOf result Spent

-- or that the slots are no store's
abbrev pub OnlyNoStore : {T : Type 0} → Result T StoreFault → Type 0
OnlyNoStore result = ¬ IsErrOf result Taken × ¬ IsErrOf result Spent

-- no other fault than a failure of the site, and that the store is poisoned
abbrev pub OnlySite : {T : Type 0} → Result T StoreFault → Type 0
OnlySite result = OnlySpent result × ¬ IsErrOf result Memory
