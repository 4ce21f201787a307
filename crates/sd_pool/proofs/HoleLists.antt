-- What the code does to the list of holes at a place, and what the definitions say of it.
use Rattle.std.proofs.Common.{◌≡◌, ℕ, zero, suc, ◌+◌, ◌-◌, ◌<◌, ◌≤◌, Bool, true, false, List, [], ◌∷◌, ◌++◌, length}
use Rattle.std.proofs.Common.{get_or, take, drop, set, refl, ap, sym, ◌∙◌, arith}
use Rattle.std.proofs.lemmas.Bool.{lt-ltb, le-ltb}
use Rattle.std.specs.Prelude.{nat_le, ◌==◌, if◌then◌else◌}
use Rattle.std.specs.List.{AllByRecursion, remove}
use Rattle.sd_pool.specs.declared.holes.Hole.{Hole}
use Rattle.sd_pool.specs.Found.{IsFirst}
use Rattle.sd_pool.specs.Holes.{suits, fit, less, taken, joined, joined_to, given, begins, ends, EndBefore}

-- ---- the first that suits

pub fit_at : (blocks count place : ℕ) (holes : List Hole) (d : Hole) → IsFirst (suits blocks count) place holes
    → (get_or holes place d).block ≡ fit blocks count holes
unfolding fit
fit_at blocks count place [] d h = absurd h
fit_at blocks count zero (hole ∷ holes) d h
    = sym (ap (λ (b : Bool). if b then hole.block else fit blocks count holes) h)
fit_at blocks count (suc place) (hole ∷ holes) d h = fit_at blocks count place holes d h.1
    ∙ sym (ap (λ (b : Bool). if b then hole.block else fit blocks count holes) h.0)

pub fit_none : (blocks count : ℕ) (holes : List Hole) → AllByRecursion (λ hole. suits blocks count hole ≡ false) holes
    → blocks ≡ fit blocks count holes
unfolding fit
fit_none blocks count [] h = refl
fit_none blocks count (hole ∷ holes) h = fit_none blocks count holes h.1
    ∙ sym (ap (λ (b : Bool). if b then hole.block else fit blocks count holes) h.0)

pub taken_none : (blocks count : ℕ) (holes : List Hole) → AllByRecursion (λ hole. suits blocks count hole ≡ false)
    holes → holes ≡ taken blocks count holes
unfolding taken
taken_none blocks count [] h = refl
taken_none blocks count (hole ∷ holes) h = ap (λ (hs : List Hole). hole ∷ hs) (taken_none blocks count holes h.1)
    ∙ sym (ap (λ (b : Bool). if b then less count hole holes else hole ∷ taken blocks count holes) h.0)

-- what is left of the hole at the place, before those after it
pub taken_at : (blocks count place : ℕ) (holes : List Hole) (d : Hole) → IsFirst (suits blocks count) place holes
    → take place holes ++ less count (get_or holes place d) (drop (suc place) holes) ≡ taken blocks count holes
unfolding taken
taken_at blocks count place [] d h = absurd h
taken_at blocks count zero (hole ∷ holes) d h
    = sym (ap (λ (b : Bool). if b then less count hole holes else hole ∷ taken blocks count holes) h)
taken_at blocks count (suc place) (hole ∷ holes) d h = ap (λ (hs : List Hole). hole ∷ hs)
    (taken_at blocks count place holes d h.1)
    ∙ sym (ap (λ (b : Bool). if b then less count hole holes else hole ∷ taken blocks count holes) h.0)

-- ---- what begins and ends at a place

pub begins_cons : (end place : ℕ) (holes : List Hole) (d : Hole) → place < length holes
    → begins end (drop place holes) ≡ (end == (get_or holes place d).block)
unfolding begins
begins_cons end place [] d lt = absurd (omega arith)
begins_cons end zero (hole ∷ holes) d lt = refl
begins_cons end (suc place) (hole ∷ holes) d lt = let rest : place < length holes = omega arith
    in begins_cons end place holes d rest

pub begins_none : (end place : ℕ) (holes : List Hole) → length holes ≤ place → begins end (drop place holes) ≡ false
unfolding begins
begins_none end zero [] le = refl
begins_none end (suc place) [] le = refl
begins_none end zero (hole ∷ holes) le = absurd (omega arith)
begins_none end (suc place) (hole ∷ holes) le = let rest : length holes ≤ place = omega arith
    in begins_none end place holes rest

pub begins_within : (end place : ℕ) (holes : List Hole) → begins end (drop place holes) ≡ true → place < length holes
unfolding begins
begins_within end zero [] h = absurd (cc)
begins_within end (suc place) [] h = absurd (cc)
begins_within end zero (hole ∷ holes) h = omega arith
begins_within end (suc place) (hole ∷ holes) h = let rest : place < length holes = begins_within end place holes h
    in omega arith

pub ends_cons : (block place : ℕ) (holes : List Hole) (d : Hole) → place < length holes
    → ends block (drop place holes) ≡ ((get_or holes place d).end == block)
unfolding ends
ends_cons block place [] d lt = absurd (omega arith)
ends_cons block zero (hole ∷ holes) d lt = refl
ends_cons block (suc place) (hole ∷ holes) d lt = let rest : place < length holes = omega arith
    in ends_cons block place holes d rest

pub ends_none : (block place : ℕ) (holes : List Hole) → length holes ≤ place → ends block (drop place holes) ≡ false
unfolding ends
ends_none block zero [] le = refl
ends_none block (suc place) [] le = refl
ends_none block zero (hole ∷ holes) le = absurd (omega arith)
ends_none block (suc place) (hole ∷ holes) le = let rest : length holes ≤ place = omega arith
    in ends_none block place holes rest

pub ends_within : (block place : ℕ) (holes : List Hole) → ends block (drop place holes) ≡ true → place < length holes
unfolding ends
ends_within block zero [] h = absurd (cc)
ends_within block (suc place) [] h = absurd (cc)
ends_within block zero (hole ∷ holes) h = omega arith
ends_within block (suc place) (hole ∷ holes) h = let rest : place < length holes = ends_within block place holes h
    in omega arith

-- ---- joining

-- the next hole begins where this one would end
pub joined_begins : (block end : ℕ) (hole : Hole) (holes : List Hole) → begins end (hole ∷ holes) ≡ true
    → joined block end (hole ∷ holes) ≡ record { block = block; end = hole.end } ∷ holes
unfolding joined begins
joined_begins block end hole holes h = ap (λ (b : Bool). if b then record { block = block; end = hole.end } ∷ holes
    else record { block = block; end = end } ∷ hole ∷ holes) h

pub joined_apart : (block end : ℕ) (holes : List Hole) → begins end holes ≡ false → joined block end holes
    ≡ record { block = block; end = end } ∷ holes
unfolding joined begins
joined_apart block end [] h = refl
joined_apart block end (hole ∷ holes) h = ap (λ (b : Bool). if b then record { block = block; end = hole.end } ∷ holes
    else record { block = block; end = end } ∷ hole ∷ holes) h

-- ---- among the others

pub given_by : Bool → ℕ → ℕ → List Hole → List Hole
given_by true block end holes = joined_to end holes
given_by false block end holes = joined block end holes

pub given_at : (block end place : ℕ) (holes : List Hole) → EndBefore block place holes → take place holes
    ++ given_by (ends block (drop place holes)) block end (drop place holes) ≡ given block end holes
unfolding given ends joined_to given_by
given_at block end zero [] h = refl
given_at block end (suc place) [] h = absurd h
given_at block end zero (hole ∷ holes) h = by_test (hole.end == block)
    ∙ sym (ap (λ (b : Bool). if b then (if hole.end == block then joined hole.block end holes
    else joined block end (hole ∷ holes)) else hole ∷ given block end holes) h)
  where
    by_test : (b : Bool) → given_by b block end (hole ∷ holes)
        ≡ (if b then joined hole.block end holes else joined block end (hole ∷ holes))
    by_test true = refl
    by_test false = refl
given_at block end (suc place) (hole ∷ holes) h = ap (λ (hs : List Hole). hole ∷ hs)
    (given_at block end place holes h.1) ∙ sym
    (ap (λ (b : Bool). if b then (if hole.end == block then joined hole.block end holes
    else joined block end (hole ∷ holes)) else hole ∷ given block end holes) h.0)

pub given_touching : (block end place : ℕ) (holes : List Hole) → EndBefore block place holes
    → ends block (drop place holes) ≡ true → take place holes ++ joined_to end (drop place holes)
    ≡ given block end holes
unfolding given_by
given_touching block end place holes before h
    = sym (ap (λ (b : Bool). take place holes ++ given_by b block end (drop place holes)) h)
    ∙ given_at block end place holes before

pub given_apart : (block end place : ℕ) (holes : List Hole) → EndBefore block place holes
    → ends block (drop place holes) ≡ false → take place holes ++ joined block end (drop place holes)
    ≡ given block end holes
unfolding given_by
given_apart block end place holes before h
    = sym (ap (λ (b : Bool). take place holes ++ given_by b block end (drop place holes)) h)
    ∙ given_at block end place holes before

-- ---- a search for the place

pub ends_before_at : (block place : ℕ) (holes : List Hole) → IsFirst (λ hole. nat_le block hole.end) place holes
    → EndBefore block place holes
ends_before_at block place [] h = absurd h
ends_before_at block zero (hole ∷ holes) h = h
ends_before_at block (suc place) (hole ∷ holes) h = (h.0, ends_before_at block place holes h.1)

pub ends_before_all : (block : ℕ) (holes : List Hole) → AllByRecursion (λ hole. nat_le block hole.end ≡ false) holes
    → EndBefore block (length holes) holes
ends_before_all block [] h = tt
ends_before_all block (hole ∷ holes) h = (h.0, ends_before_all block holes h.1)

-- ---- with what the code writes

-- the hole at the place, shorter or gone
pub less_more : (count : ℕ) (hole : Hole) (holes : List Hole) → count < hole.end - hole.block → less count hole holes
    ≡ record { block = hole.block + count; end = hole.end } ∷ holes
less_more count hole holes lt = ap (λ (b : Bool). if b then record { block = hole.block + count; end = hole.end }
    ∷ holes else holes) (lt-ltb count (hole.end - hole.block) lt)

pub less_all : (count : ℕ) (hole : Hole) (holes : List Hole) → hole.end - hole.block ≤ count → less count hole holes
    ≡ holes
less_all count hole holes le = ap (λ (b : Bool). if b then record { block = hole.block + count; end = hole.end }
    ∷ holes else holes) (le-ltb count (hole.end - hole.block) le)

-- the hole at the place written anew, and the one after it gone
pub join_next : (end place : ℕ) (holes : List Hole) (hole next : Hole) → suc place < length holes
    → begins end (drop (suc place) holes) ≡ true
    → hole ≡ get_or (remove holes (suc place)) place hole → next ≡ get_or holes (suc place) next
    → set (remove holes (suc place)) place (record { block = hole.block; end = next.end }) ≡ take place holes
    ++ joined_to end (drop place holes)
unfolding joined_to
join_next end place [] hole next lt h here there = absurd (omega arith)
join_next end zero (a ∷ []) hole next lt h here there = absurd (omega arith)
join_next end zero (a ∷ b ∷ holes) hole next lt h here there =
    ap (λ (x : Hole). record { block = x.block; end = next.end } ∷ holes) here
    ∙ ap (λ (x : Hole). record { block = a.block; end = x.end } ∷ holes) there
    ∙ sym (joined_begins a.block end b holes h)
join_next end (suc place) (a ∷ holes) hole next lt h here there = let rest : suc place < length holes = omega arith
    in ap (λ (hs : List Hole). a ∷ hs) (join_next end place holes hole next rest h here there)

pub join_here : (end place : ℕ) (holes : List Hole) (hole : Hole) → place < length holes
    → begins end (drop (suc place) holes) ≡ false
    → hole ≡ get_or holes place hole
    → set holes place (record { block = hole.block; end = end }) ≡ take place holes ++ joined_to end (drop place holes)
unfolding joined_to
join_here end place [] hole lt h here = absurd (omega arith)
join_here end zero (a ∷ holes) hole lt h here = ap (λ (x : Hole). record { block = x.block; end = end } ∷ holes) here
    ∙ sym (joined_apart a.block end holes h)
join_here end (suc place) (a ∷ holes) hole lt h here = let rest : place < length holes = omega arith
    in ap (λ (hs : List Hole). a ∷ hs) (join_here end place holes hole rest h here)

-- the hole at the place made longer to its start
pub put_joined : (block end place : ℕ) (holes : List Hole) (hole : Hole) → place < length holes
    → begins end (drop place holes) ≡ true
    → hole ≡ get_or holes place hole
    → set holes place (record { block = block; end = hole.end }) ≡ take place holes
    ++ joined block end (drop place holes)
put_joined block end place [] hole lt h here = absurd (omega arith)
put_joined block end zero (a ∷ holes) hole lt h here
    = ap (λ (x : Hole). record { block = block; end = x.end } ∷ holes) here ∙ sym (joined_begins block end a holes h)
put_joined block end (suc place) (a ∷ holes) hole lt h here = let rest : place < length holes = omega arith
    in ap (λ (hs : List Hole). a ∷ hs) (put_joined block end place holes hole rest h here)
