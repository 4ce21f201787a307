-- The holes of a region: the blocks below its end that are no live extent's.
use Rattle.std.specs.Prelude.{◌≡◌, ℕ, zero, suc, ◌+◌, ◌-◌, ◌<◌, ◌≤◌, nat_le, nat_lt, Bool, true, false, not, ◌==◌}
use Rattle.std.specs.Prelude.{◌&&◌, ◌||◌, if◌then◌else◌, List, [], ◌∷◌}
use Rattle.std.specs.List.{list_any}
use Rattle.sd_pool.specs.declared.holes.Hole.{Hole}
use Rattle.sd_pool.specs.Blocks.{Extent, covered}

abbrev pub is_in : ℕ → Hole → Bool
is_in block hole = nat_le hole.block block && nat_lt block hole.end

unfoldable pub in_holes : List Hole → ℕ → Bool
in_holes holes block = list_any (is_in block) holes

-- The holes stand by rising block, from the least one on, end within the region, and no two of them touch.
abbrev pub AreParted : ℕ → ℕ → List Hole → Type 0
AreParted least blocks [] = Unit {0}
AreParted least blocks (hole ∷ holes) = (least ≤ hole.block) × (hole.block < hole.end) × (hole.end ≤ blocks)
    × AreParted (hole.end + 1) blocks holes

-- each block of the region is in a hole or in a live extent
pub record AreHoles (holes : List Hole) (live : List Extent) (blocks : ℕ) : Type 0 where
  pub parted : AreParted 0 blocks holes
  pub exact : (block : ℕ) → block < blocks → in_holes holes block ≡ not (covered live block)

-- ---- taking

-- the hole is large enough, or the region may grow after it
abbrev pub suits : ℕ → ℕ → Hole → Bool
suits blocks count hole = nat_le count (hole.end - hole.block) || (hole.end == blocks)

-- the first hole that suits, else the end of the region
unfoldable pub fit : ℕ → ℕ → List Hole → ℕ
fit blocks count [] = blocks
fit blocks count (hole ∷ holes) = if suits blocks count hole then hole.block else fit blocks count holes

-- what is left of a hole
abbrev pub less : ℕ → Hole → List Hole → List Hole
less count hole holes = if nat_lt count (hole.end - hole.block)
    then record { block = hole.block + count; end = hole.end } ∷ holes else holes

unfoldable pub taken : ℕ → ℕ → List Hole → List Hole
taken blocks count [] = []
taken blocks count (hole ∷ holes) = if suits blocks count hole then less count hole holes else hole
    ∷ taken blocks count holes

-- ---- giving back

-- a hole before those that are left, joined with the first where they touch
unfoldable pub joined : ℕ → ℕ → List Hole → List Hole
joined block end [] = record { block = block; end = end } ∷ []
joined block end (hole ∷ holes) =
    if end == hole.block then record { block = block; end = hole.end } ∷ holes
    else record { block = block; end = end } ∷ hole ∷ holes

-- the first of these holes begins at this block; and ends there
unfoldable pub begins : ℕ → List Hole → Bool
begins end [] = false
begins end (hole ∷ holes) = end == hole.block

unfoldable pub ends : ℕ → List Hole → Bool
ends block [] = false
ends block (hole ∷ holes) = hole.end == block

-- the first of these holes, longer up to this block
unfoldable pub joined_to : ℕ → List Hole → List Hole
joined_to end [] = []
joined_to end (hole ∷ holes) = joined hole.block end holes

-- a hole among the others, joined with those that it touches
unfoldable pub given : ℕ → ℕ → List Hole → List Hole
given block end [] = joined block end []
given block end (hole ∷ holes) =
    if nat_le block hole.end then (if hole.end == block then joined hole.block end holes
    else joined block end (hole ∷ holes))
    else hole ∷ given block end holes

-- so many holes from the first on end before the block, and the next one doesn't
abbrev pub EndBefore : ℕ → ℕ → List Hole → Type 0
EndBefore block zero [] = Unit {0}
EndBefore block zero (hole ∷ holes) = nat_le block hole.end ≡ true
EndBefore block (suc place) [] = ⊥
EndBefore block (suc place) (hole ∷ holes) = (nat_le block hole.end ≡ false) × EndBefore block place holes
