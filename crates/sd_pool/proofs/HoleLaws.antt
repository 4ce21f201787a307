-- That the first fit is the least room, and that taking and giving back keep the holes.
use Rattle.std.proofs.Common.{◌≡◌, ℕ, ◌+◌, ◌-◌, ◌<◌, ◌≤◌, Bool, true, false, ◌||◌, List, [], ◌∷◌, refl, ap, sym, ◌∙◌}
use Rattle.std.proofs.Common.{arith}
use Rattle.std.specs.Prelude.{nat_le, nat_lt, ◌==◌, if◌then◌else◌}
use Rattle.std.proofs.lemmas.Bool.{leb-true, le-leb, ltb-true, ltb-false, lt-ltb, and_parts, and_from, or_parts}
use Rattle.std.proofs.lemmas.Bool.{or_from, eqb-true, eq-eqb}
use Rattle.sd_pool.specs.declared.holes.Hole.{Hole}
use Rattle.sd_pool.specs.Holes.{is_in, in_holes, AreParted, suits, fit}

-- ---- what a hole has

pub is_in_from : (block : ℕ) (hole : Hole) → hole.block ≤ block → block < hole.end → is_in block hole ≡ true
is_in_from block hole low high = and_from (nat_le hole.block block) (nat_lt block hole.end)
    (le-leb hole.block block low) (lt-ltb block hole.end high)

pub is_in_parts : (block : ℕ) (hole : Hole) → is_in block hole ≡ true → (hole.block ≤ block) × (block < hole.end)
is_in_parts block hole h =
    let parts = and_parts (nat_le hole.block block) (nat_lt block hole.end) h in
    (leb-true hole.block block parts.0, ltb-true block hole.end parts.1)

-- a test that can't pass doesn't
pub false_if : (b : Bool) → (b ≡ true → ⊥) → b ≡ false
false_if true h = absurd (h refl)
false_if false h = refl

pub is_in_below : (block : ℕ) (hole : Hole) → block < hole.block → is_in block hole ≡ false
is_in_below block hole lt = false_if (is_in block hole) (λ h. let p = is_in_parts block hole h in let le : hole.block
    ≤ block = p.0 in omega arith)

pub is_in_above : (block : ℕ) (hole : Hole) → hole.end ≤ block → is_in block hole ≡ false
is_in_above block hole le = false_if (is_in block hole) (λ h. let p = is_in_parts block hole h in let lt : block
    < hole.end = p.1 in omega arith)

-- what is in no hole below the least
pub in_holes_below : (least blocks : ℕ) (holes : List Hole) (block : ℕ) → AreParted least blocks holes → block < least
    → in_holes holes block ≡ false
unfolding in_holes
in_holes_below least blocks [] block parted lt = refl
in_holes_below least blocks (hole ∷ holes) block parted lt =
    let a : least ≤ hole.block = parted.0 in
    let b : hole.block < hole.end = parted.1 in
    or_from (is_in block hole) (in_holes holes block) (is_in_below block hole (omega arith))
    (in_holes_below (hole.end + 1) blocks holes block parted.3 (omega arith))

-- nor past the end of the region
pub in_holes_past : (least blocks : ℕ) (holes : List Hole) (block : ℕ) → AreParted least blocks holes → blocks ≤ block
    → in_holes holes block ≡ false
unfolding in_holes
in_holes_past least blocks [] block parted le = refl
in_holes_past least blocks (hole ∷ holes) block parted le =
    let c : hole.end ≤ blocks = parted.2 in
    or_from (is_in block hole) (in_holes holes block) (is_in_above block hole (omega arith))
    (in_holes_past (hole.end + 1) blocks holes block parted.3 le)

-- ---- the first fit

-- The room of the fit is in a hole or past the end of the region.
pub fit_room : (least blocks count : ℕ) (holes : List Hole) (block : ℕ) → AreParted least blocks holes
    → fit blocks count holes ≤ block → block < fit blocks count holes + count → block < blocks → in_holes holes block
    ≡ true
unfolding fit in_holes
fit_room least blocks count [] block parted low high within = absurd (omega arith)
fit_room least blocks count (hole ∷ holes) block parted low high within = by_test (suits blocks count hole) refl low
    high (fit_room (hole.end + 1) blocks count holes block parted.3)
  where
    suited : suits blocks count hole ≡ true → block < hole.block + count → block < hole.end
    suited h lt = by_size (nat_le count (hole.end - hole.block)) refl
      where
        by_size : (b : Bool) → nat_le count (hole.end - hole.block) ≡ b → block < hole.end
        by_size true enough = let size : count ≤ hole.end - hole.block = leb-true count (hole.end - hole.block) enough
            in let some : hole.block < hole.end = parted.1 in omega arith
        by_size false short = let last : hole.end ≡ blocks = eqb-true hole.end blocks
            (sym (ap (λ (b : Bool). b || (hole.end == blocks)) short) ∙ h) in omega arith

    by_test : (b : Bool) → suits blocks count hole ≡ b → (if b then hole.block else fit blocks count holes) ≤ block
        → block < (if b then hole.block else fit blocks count holes) + count
        → (fit blocks count holes ≤ block → block < fit blocks count holes + count → block < blocks
        → in_holes holes block ≡ true) → (is_in block hole || in_holes holes block) ≡ true
    by_test true h low high rest = ap (λ (b : Bool). b || in_holes holes block)
        (is_in_from block hole low (suited h high))
    by_test false h low high rest = or_true_right (is_in block hole) (in_holes holes block) (rest low high within)
      where
        or_true_right : (a b : Bool) → b ≡ true → (a || b) ≡ true
        or_true_right true b h = refl
        or_true_right false b h = h

-- Before the fit, from each block some block is in no hole that room from there would need.
pub fit_least : (least blocks count : ℕ) (holes : List Hole) (other : ℕ) → AreParted least blocks holes → 0 < count
    → least ≤ other → other < fit blocks count holes
    → (block : ℕ) × (other ≤ block) × (block < other + count) × (block < blocks) × (in_holes holes block ≡ false)
unfolding fit in_holes
fit_least least blocks count [] other parted some low high = (other, omega arith, omega arith, high, refl)
fit_least least blocks count (hole ∷ holes) other parted some low high = by_test (suits blocks count hole) refl high
    (fit_least (hole.end + 1) blocks count holes other parted.3 some)
  where
    rest_below : (block : ℕ) → block < hole.end + 1 → in_holes holes block ≡ false
    rest_below block lt = in_holes_below (hole.end + 1) blocks holes block parted.3 lt

    here : other < hole.block → (block : ℕ) × (other ≤ block) × (block < other + count) × (block < blocks)
        × ((is_in block hole || in_holes holes block) ≡ false)
    here lt =
        let b : hole.block < hole.end = parted.1 in
        let c : hole.end ≤ blocks = parted.2 in (
          other,
          omega arith,
          omega arith,
          omega arith,
          or_from (is_in other hole) (in_holes holes other)
              (is_in_below other hole lt) (rest_below other (omega arith)),
        )

    -- the block where the hole ends
    at_end : hole.end < blocks → other ≤ hole.end → hole.end < other + count → (block : ℕ) × (other ≤ block)
        × (block < other + count) × (block < blocks) × ((is_in block hole || in_holes holes block) ≡ false)
    at_end within low high = (
      hole.end,
      low,
      high,
      within,
      or_from (is_in hole.end hole) (in_holes holes hole.end)
          (is_in_above hole.end hole (omega arith)) (rest_below hole.end (omega arith)),
    )

    behind : hole.end < other → (block : ℕ) × (other ≤ block) × (block < other + count) × (block < blocks)
        × (in_holes holes block ≡ false) → (block : ℕ) × (other ≤ block) × (block < other + count) × (block < blocks)
        × ((is_in block hole || in_holes holes block) ≡ false)
    behind lt found = let le : other ≤ found.0 = found.1
        in (
          found.0,
          found.1,
          found.2,
          found.3,
          or_from (is_in found.0 hole) (in_holes holes found.0)
              (is_in_above found.0 hole (omega arith)) found.4,
        )

    not_last : suits blocks count hole ≡ false → hole.end < blocks
    not_last h =
        let parts = or_parts (nat_le count (hole.end - hole.block)) (hole.end == blocks) h in
        let c : hole.end ≤ blocks = parted.2 in
        by_equal (nat_lt hole.end blocks) refl parts.1
      where
        by_equal : (b : Bool) → nat_lt hole.end blocks ≡ b → (hole.end == blocks) ≡ false → hole.end < blocks
        by_equal true lt apart = ltb-true hole.end blocks lt
        by_equal false le apart = let bound : blocks ≤ hole.end = ltb-false hole.end blocks le in let c : hole.end
            ≤ blocks = parted.2 in let same : hole.end ≡ blocks = omega arith in let clash : true ≡ false
            = sym (eq-eqb hole.end blocks same) ∙ apart in absurd (cc)

    short : suits blocks count hole ≡ false → hole.end - hole.block < count
    short h =
        let parts = or_parts (nat_le count (hole.end - hole.block)) (hole.end == blocks) h in
        by_size (nat_le count (hole.end - hole.block)) refl parts.0
      where
        by_size : (b : Bool) → nat_le count (hole.end - hole.block) ≡ b → b ≡ false → hole.end - hole.block < count
        by_size true enough clash = absurd (cc)
        by_size false is clash = by_lt (nat_lt (hole.end - hole.block) count) refl
          where
            by_lt : (b : Bool) → nat_lt (hole.end - hole.block) count ≡ b → hole.end - hole.block < count
            by_lt true lt = ltb-true (hole.end - hole.block) count lt
            by_lt false le = let bound : count ≤ hole.end - hole.block = ltb-false (hole.end - hole.block) count le
                in let wrong : true ≡ false = sym (le-leb count (hole.end - hole.block) bound) ∙ is in absurd (cc)

    by_test : (b : Bool) → suits blocks count hole ≡ b → other < (if b then hole.block else fit blocks count holes)
        → (hole.end + 1 ≤ other → other < fit blocks count holes → (block : ℕ) × (other ≤ block)
        × (block < other + count) × (block < blocks) × (in_holes holes block ≡ false))
        → (block : ℕ) × (other ≤ block) × (block < other + count) × (block < blocks)
        × ((is_in block hole || in_holes holes block) ≡ false)
    by_test true h lt rest = here lt
    by_test false h lt rest = by_place (nat_lt other hole.block) refl
      where
        by_place : (b : Bool) → nat_lt other hole.block ≡ b → (block : ℕ) × (other ≤ block) × (block < other + count)
            × (block < blocks) × ((is_in block hole || in_holes holes block) ≡ false)
        by_place true before = here (ltb-true other hole.block before)
        by_place false from = by_end (nat_lt hole.end other) refl
          where
            by_end : (b : Bool) → nat_lt hole.end other ≡ b → (block : ℕ) × (other ≤ block) × (block < other + count)
                × (block < blocks) × ((is_in block hole || in_holes holes block) ≡ false)
            by_end true past = let over : hole.end < other = ltb-true hole.end other past
                in behind over (rest (omega arith) lt)
            by_end false within =
                let low_here : hole.block ≤ other = ltb-false other hole.block from in
                let high_here : other ≤ hole.end = ltb-false hole.end other within in
                let size : hole.end - hole.block < count = short h in
                let some_here : hole.block < hole.end = parted.1 in
                at_end (not_last h) high_here (omega arith)
