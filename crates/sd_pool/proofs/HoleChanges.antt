-- Which blocks are in holes after some are taken or given back, and that the holes stay parted.
use Rattle.std.proofs.Common.{◌≡◌, ◌⊎◌, inl, inr, ℕ, ◌+◌, ◌-◌, ◌<◌, ◌≤◌, Bool, true, false, ◌||◌, List, [], ◌∷◌, refl}
use Rattle.std.proofs.Common.{ap, sym, ◌∙◌, arith}
use Rattle.std.specs.Prelude.{nat_le, nat_lt, ◌==◌, if◌then◌else◌}
use Rattle.std.proofs.lemmas.Bool.{leb-true, le-leb, ltb-true, ltb-false, or_cases, or_parts, eqb-true, eq-eqb}
use Rattle.sd_pool.specs.declared.holes.Hole.{Hole}
use Rattle.sd_pool.specs.Holes.{is_in, in_holes, AreParted, suits, fit, less, taken, joined, given}
use Rattle.sd_pool.proofs.HoleLaws.{is_in_from, is_in_parts, in_holes_below, in_holes_past}

-- ---- tests

pub or_left : (a b : Bool) → a ≡ true → (a || b) ≡ true
or_left a b h = ap (λ (x : Bool). x || b) h

pub or_right : (a b : Bool) → b ≡ true → (a || b) ≡ true
or_right true b h = refl
or_right false b h = h

pub le_fails : (a b : ℕ) → nat_le a b ≡ false → b < a
le_fails a b h = by_lt (nat_lt b a) refl
  where
    by_lt : (t : Bool) → nat_lt b a ≡ t → b < a
    by_lt true lt = ltb-true b a lt
    by_lt false le = let bound : a ≤ b = ltb-false b a le in let wrong : true ≡ false = sym (le-leb a b bound) ∙ h
        in absurd (cc)

pub apart_if : (a b : ℕ) → (a == b) ≡ false → a ≡ b → ⊥
apart_if a b h same = let wrong : true ≡ false = sym (eq-eqb a b same) ∙ h in absurd (cc)

-- ---- parted holes

pub in_from : (least blocks : ℕ) (holes : List Hole) (block : ℕ) → AreParted least blocks holes → in_holes holes block
    ≡ true → least ≤ block
in_from least blocks holes block parted h = by_le (nat_le least block) refl
  where
    by_le : (t : Bool) → nat_le least block ≡ t → least ≤ block
    by_le true le = leb-true least block le
    by_le false lt = let none : in_holes holes block ≡ false = in_holes_below least blocks holes block parted
        (le_fails least block lt) in let wrong : true ≡ false = sym h ∙ none in absurd (cc)

pub in_within : (least blocks : ℕ) (holes : List Hole) (block : ℕ) → AreParted least blocks holes
    → in_holes holes block ≡ true → block < blocks
in_within least blocks holes block parted h = by_lt (nat_lt block blocks) refl
  where
    by_lt : (t : Bool) → nat_lt block blocks ≡ t → block < blocks
    by_lt true lt = ltb-true block blocks lt
    by_lt false le = let none : in_holes holes block ≡ false = in_holes_past least blocks holes block parted
        (ltb-false block blocks le) in let wrong : true ≡ false = sym h ∙ none in absurd (cc)

-- in a longer region, and from a lower block on
pub parted_wider : (least lower blocks longer : ℕ) (holes : List Hole) → lower ≤ least → blocks ≤ longer
    → AreParted least blocks holes → AreParted lower longer holes
parted_wider least lower blocks longer [] low high parted = tt
parted_wider least lower blocks longer (hole ∷ holes) low high parted =
    let a : least ≤ hole.block = parted.0 in
    let c : hole.end ≤ blocks = parted.2 in
    let same : hole.end + 1 ≤ hole.end + 1 = omega arith in (
      omega arith,
      parted.1,
      omega arith,
      parted_wider (hole.end + 1) (hole.end + 1) blocks longer holes same high
          parted.3,
    )

-- from a higher block on, where none of the blocks before it is in a hole
pub parted_from : (least blocks low high : ℕ) (holes : List Hole) → low ≤ least
    → ((block : ℕ) → low ≤ block → block < high → in_holes holes block ≡ false) → AreParted least blocks holes
    → AreParted high blocks holes
unfolding in_holes
parted_from least blocks low high [] le none parted = tt
parted_from least blocks low high (hole ∷ holes) le none parted
    = (by_le (nat_le high hole.block) refl, parted.1, parted.2, parted.3)
  where
    by_le : (t : Bool) → nat_le high hole.block ≡ t → high ≤ hole.block
    by_le true h = leb-true high hole.block h
    by_le false h =
        let a : least ≤ hole.block = parted.0 in
        let first : is_in hole.block hole ≡ true = is_in_from hole.block hole (omega arith) parted.1 in
        let out = or_parts (is_in hole.block hole) (in_holes holes hole.block)
        (none hole.block (omega arith) (le_fails high hole.block h)) in
        let wrong : true ≡ false = sym first ∙ out.0 in absurd (cc)

-- ---- taking

-- the fit is no less than any block that neither holes nor the end of the region are below
pub fit_from : (least blocks count : ℕ) (holes : List Hole) (m : ℕ) → m ≤ blocks → m ≤ least
    → AreParted least blocks holes → m ≤ fit blocks count holes
unfolding fit
fit_from least blocks count [] m within low parted = within
fit_from least blocks count (hole ∷ holes) m within low parted =
    let a : least ≤ hole.block = parted.0 in
    let b : hole.block < hole.end = parted.1 in
    by_test (suits blocks count hole) (fit_from (hole.end + 1) blocks count holes m within (omega arith) parted.3)
  where
    by_test : (t : Bool) → m ≤ fit blocks count holes → m ≤ (if t then hole.block else fit blocks count holes)
    by_test true rest = let a : least ≤ hole.block = parted.0 in omega arith
    by_test false rest = rest

less_in : (count : ℕ) (hole : Hole) (holes : List Hole) (block : ℕ) → in_holes (less count hole holes) block ≡ true
    → ((is_in block hole ≡ true) × (hole.block + count ≤ block)) ⊎ (in_holes holes block ≡ true)
unfolding in_holes
less_in count hole holes block h = by_size (nat_lt count (hole.end - hole.block)) refl h
  where
    by_size : (t : Bool) → nat_lt count (hole.end - hole.block) ≡ t
        → in_holes (if t then record { block = hole.block + count; end = hole.end } ∷ holes else holes) block ≡ true
        → ((is_in block hole ≡ true) × (hole.block + count ≤ block)) ⊎ (in_holes holes block ≡ true)
    by_size true more h = by_place (or_cases (is_in block (record { block = hole.block + count; end = hole.end }))
        (in_holes holes block) h)
      where
        by_place : ((is_in block (record { block = hole.block + count; end = hole.end }) ≡ true)
            ⊎ (in_holes holes block ≡ true)) → ((is_in block hole ≡ true) × (hole.block + count ≤ block))
            ⊎ (in_holes holes block ≡ true)
        by_place (inl here) =
            let parts = is_in_parts block (record { block = hole.block + count; end = hole.end }) here in
            let low : hole.block + count ≤ block = parts.0 in
            inl (is_in_from block hole (omega arith) parts.1, parts.0)
        by_place (inr rest) = inr rest
    by_size false all h = inr h

less_out : (count : ℕ) (hole : Hole) (holes : List Hole) (block : ℕ)
    → ((is_in block hole ≡ true) × (hole.block + count ≤ block)) ⊎ (in_holes holes block ≡ true)
    → in_holes (less count hole holes) block ≡ true
unfolding in_holes
less_out count hole holes block h = by_size (nat_lt count (hole.end - hole.block)) refl h
  where
    by_size : (t : Bool) → nat_lt count (hole.end - hole.block) ≡ t
        → ((is_in block hole ≡ true) × (hole.block + count ≤ block)) ⊎ (in_holes holes block ≡ true)
        → in_holes (if t then record { block = hole.block + count; end = hole.end } ∷ holes else holes) block ≡ true
    by_size true more (inl here) = or_left (is_in block (record { block = hole.block + count; end = hole.end }))
        (in_holes holes block) (is_in_from block (record { block = hole.block + count; end = hole.end }) here.1
        (is_in_parts block hole here.0).1)
    by_size true more (inr rest) = or_right (is_in block (record { block = hole.block + count; end = hole.end }))
        (in_holes holes block) rest
    by_size false all (inl here) =
        let size : hole.end - hole.block ≤ count = ltb-false count (hole.end - hole.block) all in
        let low : hole.block + count ≤ block = here.1 in
        let high : block < hole.end = (is_in_parts block hole here.0).1 in
        absurd (omega arith)
    by_size false all (inr rest) = rest

-- the block isn't one of so many from the first one on
abbrev pub IsOutside : ℕ → ℕ → ℕ → Type 0
IsOutside first count block = (block < first) ⊎ (first + count ≤ block)

-- a hole that suits has all the blocks, or is the last
suits_cases : (blocks count : ℕ) (hole : Hole) → suits blocks count hole ≡ true → (count ≤ hole.end - hole.block)
    ⊎ (hole.end ≡ blocks)
suits_cases blocks count hole h = by_case (or_cases (nat_le count (hole.end - hole.block)) (hole.end == blocks) h)
  where
    by_case : ((nat_le count (hole.end - hole.block) ≡ true) ⊎ ((hole.end == blocks) ≡ true))
        → (count ≤ hole.end - hole.block) ⊎ (hole.end ≡ blocks)
    by_case (inl enough) = inl (leb-true count (hole.end - hole.block) enough)
    by_case (inr last) = inr (eqb-true hole.end blocks last)

-- a block in a later hole is past the room
past_room : (blocks count : ℕ) (hole : Hole) (holes : List Hole) (block : ℕ) → AreParted (hole.end + 1) blocks holes
    → hole.block < hole.end → suits blocks count hole ≡ true → in_holes holes block ≡ true → hole.block + count
    ≤ block
past_room blocks count hole holes block parted some h inside = by_case (suits_cases blocks count hole h)
  where
    by_case : ((count ≤ hole.end - hole.block) ⊎ (hole.end ≡ blocks)) → hole.block + count ≤ block
    by_case (inl enough) = let low : hole.end + 1 ≤ block = in_from (hole.end + 1) blocks holes block parted inside
        in omega arith
    by_case (inr last) = let low : hole.end + 1 ≤ block = in_from (hole.end + 1) blocks holes block parted inside
        in let high : block < blocks = in_within (hole.end + 1) blocks holes block parted inside
        in absurd (omega arith)

pub taken_in : (least blocks count : ℕ) (holes : List Hole) (block : ℕ) → AreParted least blocks holes
    → in_holes (taken blocks count holes) block ≡ true → (in_holes holes block ≡ true)
    × IsOutside (fit blocks count holes) count block
unfolding taken in_holes fit
taken_in least blocks count [] block parted h = absurd (cc)
taken_in least blocks count (hole ∷ holes) block parted h = by_test (suits blocks count hole) refl h
    (taken_in (hole.end + 1) blocks count holes block parted.3)
  where
    by_test : (t : Bool) → suits blocks count hole ≡ t
        → in_holes (if t then less count hole holes else hole ∷ taken blocks count holes) block ≡ true
        → (in_holes (taken blocks count holes) block ≡ true → (in_holes holes block ≡ true)
        × IsOutside (fit blocks count holes) count block)
        → ((is_in block hole || in_holes holes block) ≡ true)
        × IsOutside (if t then hole.block else fit blocks count holes) count block
    by_test true fits h rest = by_less (less_in count hole holes block h)
      where
        by_less : (((is_in block hole ≡ true) × (hole.block + count ≤ block)) ⊎ (in_holes holes block ≡ true))
            → ((is_in block hole || in_holes holes block) ≡ true) × IsOutside hole.block count block
        by_less (inl here) = (or_left (is_in block hole) (in_holes holes block) here.0, inr here.1)
        by_less (inr later) = (
          or_right (is_in block hole) (in_holes holes block) later,
          inr
              (past_room blocks count hole holes block parted.3 parted.1 fits later),
        )
    by_test false unfit h rest = by_place (or_cases (is_in block hole) (in_holes (taken blocks count holes) block) h)
      where
        by_place : ((is_in block hole ≡ true) ⊎ (in_holes (taken blocks count holes) block ≡ true))
            → ((is_in block hole || in_holes holes block) ≡ true) × IsOutside (fit blocks count holes) count block
        by_place (inl here) =
            let high : block < hole.end = (is_in_parts block hole here).1 in
            let low : hole.end ≤ fit blocks count holes = fit_from (hole.end + 1) blocks count holes hole.end parted.2
            (omega arith) parted.3 in
            (or_left (is_in block hole) (in_holes holes block) here, inl (omega arith))
        by_place (inr later) = let r = rest later in (or_right (is_in block hole) (in_holes holes block) r.0, r.1)

pub taken_out : (least blocks count : ℕ) (holes : List Hole) (block : ℕ) → AreParted least blocks holes
    → in_holes holes block ≡ true → IsOutside (fit blocks count holes) count block
    → in_holes (taken blocks count holes) block ≡ true
unfolding taken in_holes fit
taken_out least blocks count [] block parted h out = absurd (cc)
taken_out least blocks count (hole ∷ holes) block parted h out = by_test (suits blocks count hole) refl out
    (or_cases (is_in block hole) (in_holes holes block) h)
    (taken_out (hole.end + 1) blocks count holes block parted.3)
  where
    by_test : (t : Bool) → suits blocks count hole ≡ t → IsOutside (if t then hole.block else fit blocks count holes)
        count block
        → ((is_in block hole ≡ true) ⊎ (in_holes holes block ≡ true))
        → (in_holes holes block ≡ true → IsOutside (fit blocks count holes) count block
        → in_holes (taken blocks count holes) block ≡ true)
        → in_holes (if t then less count hole holes else hole ∷ taken blocks count holes) block ≡ true
    by_test true fits (inl below) (inl here) rest = let low : hole.block ≤ block = (is_in_parts block hole here).0
        in absurd (omega arith)
    by_test true fits (inr past) (inl here) rest = less_out count hole holes block (inl (here, past))
    by_test true fits out (inr later) rest = less_out count hole holes block (inr later)
    by_test false unfit out (inl here) rest = or_left (is_in block hole) (in_holes (taken blocks count holes) block)
        here
    by_test false unfit out (inr later) rest = or_right (is_in block hole) (in_holes (taken blocks count holes) block)
        (rest later out)

pub taken_parted : (least blocks count : ℕ) (holes : List Hole) → AreParted least blocks holes
    → AreParted least blocks (taken blocks count holes)
unfolding taken
taken_parted least blocks count [] parted = tt
taken_parted least blocks count (hole ∷ holes) parted = by_test (suits blocks count hole)
    (taken_parted (hole.end + 1) blocks count holes parted.3)
  where
    by_test : (t : Bool) → AreParted (hole.end + 1) blocks (taken blocks count holes)
        → AreParted least blocks (if t then less count hole holes else hole ∷ taken blocks count holes)
    by_test true rest = by_size (nat_lt count (hole.end - hole.block)) refl
      where
        by_size : (t : Bool) → nat_lt count (hole.end - hole.block) ≡ t
            → AreParted least blocks (if t then record { block = hole.block + count; end = hole.end } ∷ holes
            else holes)
        by_size true more =
            let size : count < hole.end - hole.block = ltb-true count (hole.end - hole.block) more in
            let a : least ≤ hole.block = parted.0 in
            (omega arith, omega arith, parted.2, parted.3)
        by_size false all =
            let a : least ≤ hole.block = parted.0 in
            let b : hole.block < hole.end = parted.1 in
            let same : blocks ≤ blocks = omega arith in
            parted_wider (hole.end + 1) least blocks blocks holes (omega arith) same parted.3
    by_test false rest = (parted.0, parted.1, parted.2, rest)

-- ---- giving back

-- the block is one of these
abbrev pub IsBetween : ℕ → ℕ → ℕ → Type 0
IsBetween block end x = (block ≤ x) × (x < end)

hole_from : ℕ → ℕ → Hole
hole_from block end = record { block = block; end = end }

pub joined_in : (block end blocks : ℕ) (holes : List Hole) (x : ℕ) → block < end → AreParted end blocks holes
    → in_holes (joined block end holes) x ≡ true → IsBetween block end x ⊎ (in_holes holes x ≡ true)
unfolding joined in_holes hole_from
joined_in block end blocks [] x some parted h = by_case (or_cases (is_in x (hole_from block end)) false h)
  where
    by_case : ((is_in x (hole_from block end) ≡ true) ⊎ (false ≡ true)) → IsBetween block end x ⊎ (false ≡ true)
    by_case (inl here) = inl (is_in_parts x (hole_from block end) here)
    by_case (inr wrong) = absurd (cc)
joined_in block end blocks (hole ∷ holes) x some parted h = by_test (end == hole.block) refl h
  where
    by_test : (t : Bool) → (end == hole.block) ≡ t
        → in_holes (if t then hole_from block hole.end ∷ holes else hole_from block end ∷ hole ∷ holes) x ≡ true
        → IsBetween block end x ⊎ ((is_in x hole || in_holes holes x) ≡ true)
    by_test true touches h = by_case (or_cases (is_in x (hole_from block hole.end)) (in_holes holes x) h)
      where
        by_case : ((is_in x (hole_from block hole.end) ≡ true) ⊎ (in_holes holes x ≡ true)) → IsBetween block end x
            ⊎ ((is_in x hole || in_holes holes x) ≡ true)
        by_case (inl here) = by_place (nat_lt x end) refl
          where
            parts : (block ≤ x) × (x < hole.end)
            parts = is_in_parts x (hole_from block hole.end) here

            by_place : (t : Bool) → nat_lt x end ≡ t → IsBetween block end x
                ⊎ ((is_in x hole || in_holes holes x) ≡ true)
            by_place true lt = inl (parts.0, ltb-true x end lt)
            by_place false le =
                let same : end ≡ hole.block = eqb-true end hole.block touches in
                let bound : end ≤ x = ltb-false x end le in
                inr (or_left (is_in x hole) (in_holes holes x) (is_in_from x hole (omega arith) parts.1))
        by_case (inr rest) = inr (or_right (is_in x hole) (in_holes holes x) rest)
    by_test false apart h = by_case (or_cases (is_in x (hole_from block end)) (is_in x hole || in_holes holes x) h)
      where
        by_case : ((is_in x (hole_from block end) ≡ true) ⊎ ((is_in x hole || in_holes holes x) ≡ true))
            → IsBetween block end x ⊎ ((is_in x hole || in_holes holes x) ≡ true)
        by_case (inl here) = inl (is_in_parts x (hole_from block end) here)
        by_case (inr rest) = inr rest

pub joined_out : (block end blocks : ℕ) (holes : List Hole) (x : ℕ) → block < end → AreParted end blocks holes
    → IsBetween block end x ⊎ (in_holes holes x ≡ true) → in_holes (joined block end holes) x ≡ true
unfolding joined in_holes hole_from
joined_out block end blocks [] x some parted (inl here) = or_left (is_in x (hole_from block end)) false
    (is_in_from x (hole_from block end) here.0 here.1)
joined_out block end blocks [] x some parted (inr wrong) = absurd (cc)
joined_out block end blocks (hole ∷ holes) x some parted h = by_test (end == hole.block) refl h
  where
    by_test : (t : Bool) → (end == hole.block) ≡ t → IsBetween block end x
        ⊎ ((is_in x hole || in_holes holes x) ≡ true)
        → in_holes (if t then hole_from block hole.end ∷ holes else hole_from block end ∷ hole ∷ holes) x ≡ true
    by_test true touches (inl here) =
        let same : end ≡ hole.block = eqb-true end hole.block touches in
        let size : hole.block < hole.end = parted.1 in
        let high : x < end = here.1 in
        or_left (is_in x (hole_from block hole.end)) (in_holes holes x)
        (is_in_from x (hole_from block hole.end) here.0 (omega arith))
    by_test true touches (inr inside) = by_case (or_cases (is_in x hole) (in_holes holes x) inside)
      where
        by_case : ((is_in x hole ≡ true) ⊎ (in_holes holes x ≡ true))
            → (is_in x (hole_from block hole.end) || in_holes holes x) ≡ true
        by_case (inl here) =
            let same : end ≡ hole.block = eqb-true end hole.block touches in
            let p = is_in_parts x hole here in
            let low : hole.block ≤ x = p.0 in
            or_left (is_in x (hole_from block hole.end)) (in_holes holes x)
            (is_in_from x (hole_from block hole.end) (omega arith) p.1)
        by_case (inr rest) = or_right (is_in x (hole_from block hole.end)) (in_holes holes x) rest
    by_test false apart (inl here) = or_left (is_in x (hole_from block end)) (is_in x hole || in_holes holes x)
        (is_in_from x (hole_from block end) here.0 here.1)
    by_test false apart (inr inside) = or_right (is_in x (hole_from block end)) (is_in x hole || in_holes holes x)
        inside

pub joined_parted : (least block end blocks : ℕ) (holes : List Hole) → least ≤ block → block < end → end ≤ blocks
    → AreParted end blocks holes → AreParted least blocks (joined block end holes)
unfolding joined hole_from
joined_parted least block end blocks [] low some high parted = (low, some, high, tt)
joined_parted least block end blocks (hole ∷ holes) low some high parted = by_test (end == hole.block) refl
  where
    by_test : (t : Bool) → (end == hole.block) ≡ t
        → AreParted least blocks (if t then hole_from block hole.end ∷ holes else hole_from block end ∷ hole ∷ holes)
    by_test true touches = let a : end ≤ hole.block = parted.0 in let b : hole.block < hole.end = parted.1
        in (low, omega arith, parted.2, parted.3)
    by_test false apart = let a : end ≤ hole.block = parted.0 in let differ : end ≡ hole.block → ⊥
        = apart_if end hole.block apart in (low, some, high, (above a differ, parted.1, parted.2, parted.3))
      where
        above : end ≤ hole.block → (end ≡ hole.block → ⊥) → end + 1 ≤ hole.block
        above a differ = by_le (nat_le (end + 1) hole.block) refl
          where
            by_le : (t : Bool) → nat_le (end + 1) hole.block ≡ t → end + 1 ≤ hole.block
            by_le true h = leb-true (end + 1) hole.block h
            by_le false h = let lt : hole.block < end + 1 = le_fails (end + 1) hole.block h in let same : end
                ≡ hole.block = omega arith in absurd (differ same)

-- holes from one on that doesn't end before these blocks, and none of which has any of them, begin after them
later_from : (block end blocks : ℕ) (hole : Hole) (holes : List Hole) → nat_le block hole.end ≡ true
    → (hole.end == block) ≡ false → block < end
    → ((y : ℕ) → block ≤ y → y < end → (is_in y hole || in_holes holes y) ≡ false) → (least : ℕ)
    → AreParted least blocks (hole ∷ holes) → AreParted end blocks (hole ∷ holes)
later_from block end blocks hole holes reaches apart some none least parted
    = (by_le (nat_le end hole.block) refl, parted.1, parted.2, parted.3)
  where
    size : hole.block < hole.end
    size = parted.1

    past : block < hole.end
    past = by_lt (nat_lt block hole.end) refl
      where
        by_lt : (t : Bool) → nat_lt block hole.end ≡ t → block < hole.end
        by_lt true lt = ltb-true block hole.end lt
        by_lt false le = let a : block ≤ hole.end = leb-true block hole.end reaches in let b : hole.end ≤ block
            = ltb-false block hole.end le in let same : hole.end ≡ block = omega arith
            in absurd (apart_if hole.end block apart same)

    out : (y : ℕ) → block ≤ y → y < end → hole.block ≤ y → y < hole.end → ⊥
    out y low high from to = let parts = or_parts (is_in y hole) (in_holes holes y) (none y low high)
        in let wrong : true ≡ false = sym (is_in_from y hole from to) ∙ parts.0 in absurd (cc)

    by_le : (t : Bool) → nat_le end hole.block ≡ t → end ≤ hole.block
    by_le true h = leb-true end hole.block h
    by_le false h = by_side (nat_le block hole.block) refl
      where
        first : hole.block < end
        first = le_fails end hole.block h

        by_side : (t : Bool) → nat_le block hole.block ≡ t → end ≤ hole.block
        by_side true le = let low : block ≤ hole.block = leb-true block hole.block le in let same : hole.block
            ≤ hole.block = omega arith in absurd (out hole.block low first same size)
        by_side false lt = let below : hole.block < block = le_fails block hole.block lt in let same : block ≤ block
            = omega arith in let low : hole.block ≤ block = omega arith in absurd (out block same some low past)

pub given_in : (least block end blocks : ℕ) (holes : List Hole) (x : ℕ) → block < end
    → ((y : ℕ) → block ≤ y → y < end → in_holes holes y ≡ false) → AreParted least blocks holes
    → in_holes (given block end holes) x ≡ true → IsBetween block end x ⊎ (in_holes holes x ≡ true)
unfolding given in_holes
given_in least block end blocks [] x some none parted h = joined_in block end end [] x some tt h
given_in least block end blocks (hole ∷ holes) x some none parted h = by_test (nat_le block hole.end) refl h
    (given_in (hole.end + 1) block end blocks holes x some none_later parted.3)
  where
    none_later : (y : ℕ) → block ≤ y → y < end → in_holes holes y ≡ false
    none_later y low high = (or_parts (is_in y hole) (in_holes holes y) (none y low high)).1

    by_test : (t : Bool) → nat_le block hole.end ≡ t
        → in_holes (if t then (if hole.end == block then joined hole.block end holes
        else joined block end (hole ∷ holes)) else hole ∷ given block end holes) x ≡ true
        → (in_holes (given block end holes) x ≡ true → IsBetween block end x ⊎ (in_holes holes x ≡ true))
        → IsBetween block end x ⊎ ((is_in x hole || in_holes holes x) ≡ true)
    by_test true reaches h rest = by_touch (hole.end == block) refl h
      where
        by_touch : (t : Bool) → (hole.end == block) ≡ t
            → in_holes (if t then joined hole.block end holes else joined block end (hole ∷ holes)) x ≡ true
            → IsBetween block end x ⊎ ((is_in x hole || in_holes holes x) ≡ true)
        by_touch true touches h =
            let same : hole.end ≡ block = eqb-true hole.end block touches in
            let size : hole.block < hole.end = parted.1 in
            by_case (joined_in hole.block end blocks holes x (omega arith)
            (parted_from (hole.end + 1) blocks block end holes (omega arith) none_later parted.3) h)
          where
            by_case : (IsBetween hole.block end x ⊎ (in_holes holes x ≡ true)) → IsBetween block end x
                ⊎ ((is_in x hole || in_holes holes x) ≡ true)
            by_case (inl here) = by_place (nat_lt x hole.end) refl
              where
                by_place : (t : Bool) → nat_lt x hole.end ≡ t → IsBetween block end x
                    ⊎ ((is_in x hole || in_holes holes x) ≡ true)
                by_place true lt = inr (or_left (is_in x hole) (in_holes holes x)
                    (is_in_from x hole here.0 (ltb-true x hole.end lt)))
                by_place false le = let bound : hole.end ≤ x = ltb-false x hole.end le in let same : hole.end ≡ block
                    = eqb-true hole.end block touches in inl (omega arith, here.1)
            by_case (inr later) = inr (or_right (is_in x hole) (in_holes holes x) later)
        by_touch false apart h = joined_in block end blocks (hole ∷ holes) x some
            (later_from block end blocks hole holes reaches apart some none least parted) h
    by_test false before h rest = by_case (or_cases (is_in x hole) (in_holes (given block end holes) x) h)
      where
        by_case : ((is_in x hole ≡ true) ⊎ (in_holes (given block end holes) x ≡ true)) → IsBetween block end x
            ⊎ ((is_in x hole || in_holes holes x) ≡ true)
        by_case (inl here) = inr (or_left (is_in x hole) (in_holes holes x) here)
        by_case (inr later) = by_rest (rest later)
          where
            by_rest : (IsBetween block end x ⊎ (in_holes holes x ≡ true)) → IsBetween block end x
                ⊎ ((is_in x hole || in_holes holes x) ≡ true)
            by_rest (inl between) = inl between
            by_rest (inr inside) = inr (or_right (is_in x hole) (in_holes holes x) inside)

pub given_out : (least block end blocks : ℕ) (holes : List Hole) (x : ℕ) → block < end
    → ((y : ℕ) → block ≤ y → y < end → in_holes holes y ≡ false) → AreParted least blocks holes
    → IsBetween block end x ⊎ (in_holes holes x ≡ true) → in_holes (given block end holes) x ≡ true
unfolding given in_holes
given_out least block end blocks [] x some none parted h = joined_out block end end [] x some tt h
given_out least block end blocks (hole ∷ holes) x some none parted h = by_test (nat_le block hole.end) refl h
    (given_out (hole.end + 1) block end blocks holes x some none_later parted.3)
  where
    none_later : (y : ℕ) → block ≤ y → y < end → in_holes holes y ≡ false
    none_later y low high = (or_parts (is_in y hole) (in_holes holes y) (none y low high)).1

    by_test : (t : Bool) → nat_le block hole.end ≡ t → IsBetween block end x
        ⊎ ((is_in x hole || in_holes holes x) ≡ true)
        → (IsBetween block end x ⊎ (in_holes holes x ≡ true) → in_holes (given block end holes) x ≡ true)
        → in_holes (if t then (if hole.end == block then joined hole.block end holes
        else joined block end (hole ∷ holes)) else hole ∷ given block end holes) x ≡ true
    by_test true reaches h rest = by_touch (hole.end == block) refl h
      where
        by_touch : (t : Bool) → (hole.end == block) ≡ t → IsBetween block end x
            ⊎ ((is_in x hole || in_holes holes x) ≡ true)
            → in_holes (if t then joined hole.block end holes else joined block end (hole ∷ holes)) x ≡ true
        by_touch true touches h =
            let same : hole.end ≡ block = eqb-true hole.end block touches in
            let size : hole.block < hole.end = parted.1 in
            joined_out hole.block end blocks holes x (omega arith)
            (parted_from (hole.end + 1) blocks block end holes (omega arith) none_later parted.3) (by_case h)
          where
            by_case : IsBetween block end x ⊎ ((is_in x hole || in_holes holes x) ≡ true) → IsBetween hole.block end x
                ⊎ (in_holes holes x ≡ true)
            by_case (inl here) = let same : hole.end ≡ block = eqb-true hole.end block touches
                in let size : hole.block < hole.end = parted.1 in let low : block ≤ x = here.0
                in inl (omega arith, here.1)
            by_case (inr inside) = by_hole (or_cases (is_in x hole) (in_holes holes x) inside)
              where
                by_hole : ((is_in x hole ≡ true) ⊎ (in_holes holes x ≡ true)) → IsBetween hole.block end x
                    ⊎ (in_holes holes x ≡ true)
                by_hole (inl here) = let p = is_in_parts x hole here in let high : x < hole.end = p.1
                    in let same : hole.end ≡ block = eqb-true hole.end block touches in inl (p.0, omega arith)
                by_hole (inr later) = inr later
        by_touch false apart h = joined_out block end blocks (hole ∷ holes) x some
            (later_from block end blocks hole holes reaches apart some none least parted) h
    by_test false before (inl between) rest = or_right (is_in x hole) (in_holes (given block end holes) x)
        (rest (inl between))
    by_test false before (inr inside) rest = by_case (or_cases (is_in x hole) (in_holes holes x) inside)
      where
        by_case : ((is_in x hole ≡ true) ⊎ (in_holes holes x ≡ true))
            → (is_in x hole || in_holes (given block end holes) x) ≡ true
        by_case (inl here) = or_left (is_in x hole) (in_holes (given block end holes) x) here
        by_case (inr later) = or_right (is_in x hole) (in_holes (given block end holes) x) (rest (inr later))

pub given_parted : (least block end blocks : ℕ) (holes : List Hole) → least ≤ block → block < end → end ≤ blocks
    → ((y : ℕ) → block ≤ y → y < end → in_holes holes y ≡ false) → AreParted least blocks holes
    → AreParted least blocks (given block end holes)
unfolding given in_holes
given_parted least block end blocks [] low some high none parted = joined_parted least block end blocks [] low some
    high tt
given_parted least block end blocks (hole ∷ holes) low some high none parted = by_test (nat_le block hole.end) refl
    (λ le. given_parted (hole.end + 1) block end blocks holes le some high none_later parted.3)
  where
    none_later : (y : ℕ) → block ≤ y → y < end → in_holes holes y ≡ false
    none_later y low high = (or_parts (is_in y hole) (in_holes holes y) (none y low high)).1

    by_test : (t : Bool) → nat_le block hole.end ≡ t
        → (hole.end + 1 ≤ block → AreParted (hole.end + 1) blocks (given block end holes))
        → AreParted least blocks (if t then (if hole.end == block then joined hole.block end holes
        else joined block end (hole ∷ holes)) else hole ∷ given block end holes)
    by_test true reaches rest = by_touch (hole.end == block) refl
      where
        by_touch : (t : Bool) → (hole.end == block) ≡ t
            → AreParted least blocks (if t then joined hole.block end holes else joined block end (hole ∷ holes))
        by_touch true touches =
            let same : hole.end ≡ block = eqb-true hole.end block touches in
            let size : hole.block < hole.end = parted.1 in
            joined_parted least hole.block end blocks holes parted.0 (omega arith) high
            (parted_from (hole.end + 1) blocks block end holes (omega arith) none_later parted.3)
        by_touch false apart = joined_parted least block end blocks (hole ∷ holes) low some high
            (later_from block end blocks hole holes reaches apart some none least parted)
    by_test false before rest = let past : hole.end < block = le_fails block hole.end before
        in (parted.0, parted.1, parted.2, rest (omega arith))
