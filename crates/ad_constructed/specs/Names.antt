-- Names as a vector of vectors has them.
use Rattle.std.specs.Prelude.{ℕ, List, map, Vec}
use Rattle.std.specs.declared.alloc.Global.{Global}

-- the bytes of each
abbrev pub all_items : List (Vec ℕ Global) → List (List ℕ)
all_items names = map (λ (name : Vec ℕ Global). name.items) names
