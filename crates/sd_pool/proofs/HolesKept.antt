-- The holes and the live extents: the first fit is the least room, and both stay a parting of the region.
use Rattle.std.proofs.Common.{◌≡◌, ◌⊎◌, inl, inr, ℕ, ◌+◌, ◌<◌, ◌≤◌, Bool, true, false, not, Some, List, [], ◌∷◌, max}
use Rattle.std.proofs.Common.{refl, sym, ◌∙◌, arith}
use Rattle.std.specs.Prelude.{nat_lt, if◌then◌else◌}
use Rattle.std.proofs.lemmas.Bool.{ltb-true, ltb-false}
use Rattle.sd_pool.specs.declared.holes.Hole.{Hole}
use Rattle.sd_pool.specs.Blocks.{Extent, covers, covered, IsLeastRoom}
use Rattle.sd_pool.specs.Pool.{inserted, extent_of, AreApart}
use Rattle.sd_pool.specs.Slots.{dropped}
use Rattle.sd_pool.specs.Holes.{in_holes, AreParted, AreHoles, suits, fit, taken, given}
use Rattle.sd_pool.proofs.HoleLaws.{false_if, fit_room, fit_least}
use Rattle.sd_pool.proofs.HoleChanges.{IsOutside, in_within, parted_wider, taken_in, taken_out, taken_parted}
use Rattle.sd_pool.proofs.HoleChanges.{IsBetween, given_in, given_out, given_parted}
use Rattle.sd_pool.proofs.Covering.{size, covers_from, covers_parts, inserted_in, inserted_out, some_blocks}
use Rattle.sd_pool.proofs.Sharing.{covered_by, dropped_in, dropped_out}

-- no live extent passes the end of the region
abbrev pub AreInside : ℕ → List Extent → Type 0
AreInside blocks live = (block : ℕ) → covered live block ≡ true → block < blocks

-- ---- tests

-- two tests that pass together are one
same_test : (a b : Bool) → (a ≡ true → b ≡ true) → (b ≡ true → a ≡ true) → a ≡ b
same_test true true there back = refl
same_test false false there back = refl
same_test true false there back = sym (there refl)
same_test false true there back = back refl

not_from : (b : Bool) → b ≡ false → not b ≡ true
not_from true h = sym h
not_from false h = refl

not_parts : (b : Bool) → not b ≡ true → b ≡ false
not_parts true h = sym h
not_parts false h = refl

-- ---- what exactly the holes have

uncovered : (holes : List Hole) (live : List Extent) (blocks block : ℕ) → AreHoles holes live blocks → block < blocks
    → in_holes holes block ≡ true → covered live block ≡ false
uncovered holes live blocks block kept lt h = not_parts (covered live block) (sym (kept.exact block lt) ∙ h)

hole_at : (holes : List Hole) (live : List Extent) (blocks block : ℕ) → AreHoles holes live blocks → block < blocks
    → covered live block ≡ false → in_holes holes block ≡ true
hole_at holes live blocks block kept lt h = kept.exact block lt ∙ not_from (covered live block) h

past_end : (live : List Extent) (blocks block : ℕ) → AreInside blocks live → blocks ≤ block → covered live block ≡ false
past_end live blocks block inside le = false_if (covered live block) (λ h. let lt : block < blocks = inside block h
    in absurd (omega arith))

fit_within : (least blocks count : ℕ) (holes : List Hole) → AreParted least blocks holes → fit blocks count holes
    ≤ blocks
unfolding fit
fit_within least blocks count [] parted = omega arith
fit_within least blocks count (hole ∷ holes) parted = by_test (suits blocks count hole)
    (fit_within (hole.end + 1) blocks count holes parted.3)
  where
    by_test : (t : Bool) → fit blocks count holes ≤ blocks → (if t then hole.block else fit blocks count holes) ≤ blocks
    by_test true rest = let b : hole.block < hole.end = parted.1 in let c : hole.end ≤ blocks = parted.2 in omega arith
    by_test false rest = rest

-- ---- the first fit

pub least_room : (holes : List Hole) (live : List Extent) (blocks count : ℕ) → AreHoles holes live blocks
    → AreInside blocks live → 0 < count → IsLeastRoom live count (fit blocks count holes)
least_room holes live blocks count kept inside some = record {
  room = λ block low high. room block low high (nat_lt block blocks) refl;
  least = λ other lt room.
      let found = fit_least 0 blocks count holes other kept.parted some (omega arith) lt in
      let free : covered live found.0 ≡ false = room found.0 found.1 found.2 in
      let wrong : true ≡ false = sym (hole_at holes live blocks found.0 kept found.3 free) ∙ found.4 in absurd (cc);
}
  where
    room : (block : ℕ) → fit blocks count holes ≤ block → block < fit blocks count holes + count → (t : Bool)
        → nat_lt block blocks ≡ t → covered live block ≡ false
    room block low high true lt = let within : block < blocks = ltb-true block blocks lt
        in uncovered holes live blocks block kept within
        (fit_room 0 blocks count holes block kept.parted low high within)
    room block low high false le = past_end live blocks block inside (ltb-false block blocks le)

-- ---- after an extent more

-- the extent has the room of the fit, and the region goes on to its end
pub holes_taken : (holes : List Hole) (live : List Extent) (blocks count : ℕ) (e : Extent)
    → AreHoles holes live blocks → AreInside blocks live → e.block ≡ fit blocks count holes → size e ≡ count
    → AreHoles (taken blocks count holes) (inserted e live) (max blocks (fit blocks count holes + count))
holes_taken holes live blocks count e kept inside at long = record {
  parted = parted_wider 0 0 blocks (max blocks (fit blocks count holes + count)) (taken blocks count holes)
      (omega arith) (omega arith) (taken_parted 0 blocks count holes kept.parted);
  exact = λ block lt. same_test (in_holes (taken blocks count holes) block) (not (covered (inserted e live) block))
      (there block) (back block lt);
}
  where
    outside_from : (block : ℕ) → covers e block ≡ false → IsOutside (fit blocks count holes) count block
    outside_from block out = by_low (nat_lt block (fit blocks count holes)) refl
      where
        by_low : (t : Bool) → nat_lt block (fit blocks count holes) ≡ t → IsOutside (fit blocks count holes) count block
        by_low true lt = inl (ltb-true block (fit blocks count holes) lt)
        by_low false ge = by_high (nat_lt block (fit blocks count holes + count)) refl
          where
            by_high : (t : Bool) → nat_lt block (fit blocks count holes + count) ≡ t
                → IsOutside (fit blocks count holes) count block
            by_high true lt =
                let low : fit blocks count holes ≤ block = ltb-false block (fit blocks count holes) ge in
                let high : block < fit blocks count holes + count = ltb-true block (fit blocks count holes + count) lt
                in
                let wrong : true ≡ false = sym (covers_from e block (omega (arith, at)) (omega (arith, at, long)))
                ∙ out in absurd (cc)
            by_high false le = inr (ltb-false block (fit blocks count holes + count) le)

    not_covered : (block : ℕ) → IsOutside (fit blocks count holes) count block → covers e block ≡ false
    not_covered block (inl below) = false_if (covers e block)
        (λ h. let p = covers_parts e block h in let low : e.block ≤ block = p.0 in absurd (omega (arith, at)))
    not_covered block (inr past) = false_if (covers e block) (λ h. let p = covers_parts e block h in let high : block
        < e.block + size e = p.1 in absurd (omega (arith, at, long)))

    there : (block : ℕ) → in_holes (taken blocks count holes) block ≡ true → not (covered (inserted e live) block)
        ≡ true
    there block h =
        let was = taken_in 0 blocks count holes block kept.parted h in
        let within : block < blocks = in_within 0 blocks holes block kept.parted was.0 in
        not_from (covered (inserted e live) block)
        (false_if (covered (inserted e live) block)
        (λ c. by_case (not_covered block was.1) (uncovered holes live blocks block kept within was.0)
        (inserted_in e live block c)))
      where
        by_case : covers e block ≡ false → covered live block ≡ false → (covers e block ≡ true)
            ⊎ (covered live block ≡ true) → ⊥
        by_case own old (inl h) = let wrong : true ≡ false = sym h ∙ own in absurd (cc)
        by_case own old (inr h) = let wrong : true ≡ false = sym h ∙ old in absurd (cc)

    back : (block : ℕ) → block < max blocks (fit blocks count holes + count) → not (covered (inserted e live) block)
        ≡ true → in_holes (taken blocks count holes) block ≡ true
    back block lt h = by_place (nat_lt block blocks) refl
      where
        free : covered (inserted e live) block ≡ false
        free = not_parts (covered (inserted e live) block) h

        own : covers e block ≡ false
        own = false_if (covers e block) (λ c. let wrong : true ≡ false = sym (inserted_out e live block (inl c))
            ∙ free in absurd (cc))

        old : covered live block ≡ false
        old = false_if (covered live block) (λ c. let wrong : true ≡ false = sym (inserted_out e live block (inr c))
            ∙ free in absurd (cc))

        by_place : (t : Bool) → nat_lt block blocks ≡ t → in_holes (taken blocks count holes) block ≡ true
        by_place true lt = taken_out 0 blocks count holes block kept.parted
            (hole_at holes live blocks block kept (ltb-true block blocks lt) old) (outside_from block own)
        by_place false ge =
            let past : blocks ≤ block = ltb-false block blocks ge in
            let low : fit blocks count holes ≤ blocks = fit_within 0 blocks count holes kept.parted in
            let high : block < fit blocks count holes + count = omega (arith, lt) in
            let wrong : true ≡ false = sym (covers_from e block (omega (arith, at)) (omega (arith, at, long))) ∙ own
            in absurd (cc)

-- ---- after an extent less

pub holes_given : (holes : List Hole) (live : List Extent) (blocks id : ℕ) (e : Extent) → AreHoles holes live blocks
    → AreInside blocks live → AreApart live → extent_of live id ≡ Some e → e.block + size e ≤ blocks
    → AreHoles (given e.block (e.block + size e) holes) (dropped id live) blocks
holes_given holes live blocks id e kept inside apart found fits = record {
  parted = given_parted 0 e.block (e.block + size e) blocks holes (omega arith) longer fits none kept.parted;
  exact = λ block lt. same_test (in_holes (given e.block (e.block + size e) holes) block)
      (not (covered (dropped id live) block)) (there block lt) (back block lt);
}
  where
    longer : e.block < e.block + size e
    longer = let some : 0 < size e = some_blocks _ in omega arith

    none : (block : ℕ) → e.block ≤ block → block < e.block + size e → in_holes holes block ≡ false
    none block low high = false_if (in_holes holes block) (λ h.
        let within : block < blocks = omega arith in
        let wrong : true ≡ false = sym (covered_by id e live block found (covers_from e block low high))
        ∙ uncovered holes live blocks block kept within h in absurd (cc))

    there : (block : ℕ) → block < blocks → in_holes (given e.block (e.block + size e) holes) block ≡ true
        → not (covered (dropped id live) block) ≡ true
    there block lt h = not_from (covered (dropped id live) block)
        (false_if (covered (dropped id live) block)
        (λ c. by_case (dropped_in id e live block apart found c)
        (given_in 0 e.block (e.block + size e) blocks holes block longer none kept.parted h)))
      where
        by_case : (covered live block ≡ true) × (covers e block ≡ false)
            → (IsBetween e.block (e.block + size e) block ⊎ (in_holes holes block ≡ true)) → ⊥
        by_case was (inl between) = let wrong : true ≡ false = sym (covers_from e block between.0 between.1) ∙ was.1
            in absurd (cc)
        by_case was (inr h) = let wrong : true ≡ false = sym was.0 ∙ uncovered holes live blocks block kept lt h
            in absurd (cc)

    back : (block : ℕ) → block < blocks → not (covered (dropped id live) block) ≡ true
        → in_holes (given e.block (e.block + size e) holes) block ≡ true
    back block lt h = given_out 0 e.block (e.block + size e) blocks holes block longer none kept.parted
        (by_own (covers e block) refl)
      where
        free : covered (dropped id live) block ≡ false
        free = not_parts (covered (dropped id live) block) h

        by_own : (t : Bool) → covers e block ≡ t → IsBetween e.block (e.block + size e) block
            ⊎ (in_holes holes block ≡ true)
        by_own true own = inl (covers_parts e block own)
        by_own false out = inr (hole_at holes live blocks block kept lt
            (false_if (covered live block)
            (λ c. let wrong : true ≡ false = sym (dropped_out id e live block found c out) ∙ free in absurd (cc))))
