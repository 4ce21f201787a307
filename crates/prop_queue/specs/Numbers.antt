-- Only for private contracts, invariants and proofs: the numbers by which parents are found.
use Rattle.std.specs.Prelude.{◌≡◌, ℕ, true, nat_eq, Option, None, Some, List, [], ◌∷◌}
use Rattle.std.specs.Option.{is_some}
use Rattle.std.specs.declared.hash.FoldHasher.{FoldHasher}
use Rattle.std.specs.declared.hash.BuildHasherDefault.{BuildHasherDefault}
use Rattle.std.specs.HashMap.{get, HashMap}
use Rattle.prop_queue.specs.declared.pending.Pending.{Pending}

-- a number for each parent
abbrev pub Numbers : Type 0
Numbers = HashMap ℕ ℕ (BuildHasherDefault FoldHasher)

-- Each pending parent has a number. Where a number leads is looked at when it is used.
abbrev pub AreKnown : Numbers → List Pending → Type 0
AreKnown numbers [] = Unit {0}
AreKnown numbers (entry ∷ others) = (is_some (get nat_eq numbers entry.parent) ≡ true) × AreKnown numbers others

-- as long as there are numbers
abbrev pub AreKnownIf : Option Numbers → List Pending → Type 0
AreKnownIf None queue = Unit {0}
AreKnownIf (Some numbers) queue = AreKnown numbers queue
