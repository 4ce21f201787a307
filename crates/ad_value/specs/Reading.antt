-- What a reader of values answers.
use Rattle.std.specs.Prelude.{◌≡◌, Result, Ok, Err}
use Rattle.ad_value.specs.Value.{Value}
use Rattle.ad_value.specs.declared.fault.ValueFault.{ValueFault}
use Rattle.ad_value.specs.declared.fault.ValueFault.TheVariants as fault

-- the one value of this form, or the fault of the syntax where there is none; want of memory aside
abbrev pub Reads : (Value → Type 0) → Result Value ValueFault → Type 0
Reads Form (Ok v) = Form v × ((other : Value) → Form other → other ≡ v)
Reads Form (Err fault.Syntax) = (v : Value) → Form v → ⊥
Reads Form (Err fault.TooLong) = ⊥
Reads Form (Err fault.Memory) = Unit {0}

-- it is this value, want of memory aside
abbrev pub IsReadAs : Value → Result Value ValueFault → Type 0
IsReadAs v (Ok other) = other ≡ v
IsReadAs v (Err fault.Memory) = Unit {0}
IsReadAs v (Err _) = ⊥
