-- Which faults a call answers.
use Rattle.std.specs.Prelude.{Result, IsErrOf}
use Rattle.gate_log.specs.declared.fault.LogFault.{LogFault}
use Rattle.gate_log.specs.declared.fault.LogFault.TheVariants.{Taken, Empty, Broken, Spent, Site, Memory}

-- no other fault than want of memory and a failure of the site
abbrev pub OnlySiteOrMemory : {T : Type 0} → Result T LogFault → Type 0
OnlySiteOrMemory result = ¬ IsErrOf result Taken × ¬ IsErrOf result Empty × ¬ IsErrOf result Broken
    × ¬ IsErrOf result Spent

-- besides these, that the log is poisoned
abbrev pub OnlySpent : {T : Type 0} → Result T LogFault → Type 0
OnlySpent result = ¬ IsErrOf result Taken × ¬ IsErrOf result Empty × ¬ IsErrOf result Broken

-- besides, that a slot isn't empty
abbrev pub OnlyTaken : {T : Type 0} → Result T LogFault → Type 0
OnlyTaken result = ¬ IsErrOf result Empty × ¬ IsErrOf result Broken × ¬ IsErrOf result Spent

-- besides, that the slots are no store's
abbrev pub OnlyNoStore : {T : Type 0} → Result T LogFault → Type 0
OnlyNoStore result = ¬ IsErrOf result Taken × ¬ IsErrOf result Spent

-- no other fault than want of memory and a broken store
abbrev pub OnlyBroken : {T : Type 0} → Result T LogFault → Type 0
OnlyBroken result = ¬ IsErrOf result Taken × ¬ IsErrOf result Empty × ¬ IsErrOf result Site × ¬ IsErrOf result Spent

-- no other fault than a failure of the site, and that the log is poisoned
abbrev pub OnlySite : {T : Type 0} → Result T LogFault → Type 0
OnlySite result = OnlySpent result × ¬ IsErrOf result Memory
