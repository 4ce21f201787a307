-- Reading a whole input up to a limit, or some bytes of it.
use Rattle.std.specs.Prelude.{◌≡◌, ℕ, ◌<◌, List, [], ◌++◌, length, take, Option, None, Some, Result, Ok, Err, Vec}
use Rattle.std.specs.declared.alloc.Global.{Global}
use Rattle.site_io.specs.Told.{BothTold}

-- what is left is an end of what there was
abbrev pub LeavesAnEnd : Option (List ℕ) → Option (List ℕ) → Type 0
LeavesAnEnd old new = BothTold old new (λ before after. (taken : List ℕ) × (before ≡ taken ++ after))

-- The whole input was read to its end, or more than limit bytes of it came.
abbrev pub ReadsWhole : {E : Type 0} → Option (List ℕ) → Option (List ℕ) → ℕ → Result (Option (Vec ℕ Global)) E → Type 0
ReadsWhole old new limit (Ok (Some whole)) = BothTold old new (λ before after. (before ≡ whole.items) × (after ≡ []))
ReadsWhole old new limit (Ok None) = BothTold old new (λ before after. limit < length before)
ReadsWhole old new limit (Err e) = Unit {0}

-- Bytes were taken into a buffer until it was full or the input ended: n of them, and fewer than it has room for
-- only at the end.
abbrev pub Fills : Option (List ℕ) → Option (List ℕ) → ℕ → List ℕ → Type 0
Fills old new n into = BothTold old new (λ before after. (before ≡ take n into ++ after)
    × (n < length into → after ≡ []))
