-- Which blocks live extents cover, and what inserting, dropping and sharing do to it and to the other facts of a
-- pool.
use Rattle.std.proofs.Common.{◌≡◌, ◌⊎◌, inl, inr, ℕ, suc, ◌+◌, ◌<◌, ◌≤◌, Bool, true, false, ◌||◌, cond, None, Some}
use Rattle.std.proofs.Common.{List, [], ◌∷◌, length, refl, ap, sym, ◌∙◌, arith}
use Rattle.std.specs.Prelude.{nat_le, nat_lt, if◌then◌else◌}
use Rattle.std.specs.Str.{bytes_eq}
use Rattle.std.proofs.lemmas.Bool.{leb-true, le-leb, ltb-true, lt-ltb, and_parts, and_from, or_cases, or_parts, eq-eqb}
use Rattle.std.proofs.lemmas.Slice.Eq.{bytes_eq-Decides}
use Rattle.sd_pool.specs.Blocks.{blocks_for, Extent, covers, covered, IsRoom}
use Rattle.sd_pool.specs.Pool.{has_bytes, with_bytes, inserted, AreApart, AreDistinct}
use Rattle.sd_pool.specs.Tallies.{hash, has_hash, count_of_hash}
use Rattle.sd_pool.proofs.HoleLaws.{false_if}
use Rattle.sd_pool.proofs.HoleChanges.{or_left, or_right}

-- the number of an extent's blocks
abbrev pub size : Extent → ℕ
size e = blocks_for (length e.bytes)

pub some_blocks : (len : ℕ) → 0 < blocks_for len
unfolding blocks_for
some_blocks len = omega arith

pub covers_from : (e : Extent) (block : ℕ) → e.block ≤ block → block < e.block + size e → covers e block ≡ true
unfolding covers
covers_from e block low high = and_from (nat_le e.block block) (nat_lt block (e.block + size e))
    (le-leb e.block block low) (lt-ltb block (e.block + size e) high)

pub covers_parts : (e : Extent) (block : ℕ) → covers e block ≡ true → (e.block ≤ block) × (block < e.block + size e)
unfolding covers
covers_parts e block h =
    let parts = and_parts (nat_le e.block block) (nat_lt block (e.block + size e)) h in
    (leb-true e.block block parts.0, ltb-true block (e.block + size e) parts.1)

-- ---- an extent more

pub inserted_in : (e : Extent) (live : List Extent) (block : ℕ) → covered (inserted e live) block ≡ true
    → (covers e block ≡ true) ⊎ (covered live block ≡ true)
unfolding covered inserted
inserted_in e [] block h = or_cases (covers e block) false h
inserted_in e (f ∷ fs) block h = by_test (nat_lt e.id f.id) h (inserted_in e fs block)
  where
    by_test : (t : Bool) → covered (if t then e ∷ f ∷ fs else f ∷ inserted e fs) block ≡ true
        → (covered (inserted e fs) block ≡ true → (covers e block ≡ true) ⊎ (covered fs block ≡ true))
        → (covers e block ≡ true) ⊎ ((covers f block || covered fs block) ≡ true)
    by_test true h rest = or_cases (covers e block) (covers f block || covered fs block) h
    by_test false h rest = by_case (or_cases (covers f block) (covered (inserted e fs) block) h)
      where
        by_case : ((covers f block ≡ true) ⊎ (covered (inserted e fs) block ≡ true)) → (covers e block ≡ true)
            ⊎ ((covers f block || covered fs block) ≡ true)
        by_case (inl here) = inr (or_left (covers f block) (covered fs block) here)
        by_case (inr later) = by_rest (rest later)
          where
            by_rest : (covers e block ≡ true) ⊎ (covered fs block ≡ true) → (covers e block ≡ true)
                ⊎ ((covers f block || covered fs block) ≡ true)
            by_rest (inl own) = inl own
            by_rest (inr inside) = inr (or_right (covers f block) (covered fs block) inside)

pub inserted_out : (e : Extent) (live : List Extent) (block : ℕ) → (covers e block ≡ true)
    ⊎ (covered live block ≡ true) → covered (inserted e live) block ≡ true
unfolding covered inserted
inserted_out e [] block (inl own) = or_left (covers e block) false own
inserted_out e [] block (inr wrong) = absurd (cc)
inserted_out e (f ∷ fs) block h = by_test (nat_lt e.id f.id) h (inserted_out e fs block)
  where
    by_test : (t : Bool) → (covers e block ≡ true) ⊎ ((covers f block || covered fs block) ≡ true)
        → ((covers e block ≡ true) ⊎ (covered fs block ≡ true) → covered (inserted e fs) block ≡ true)
        → covered (if t then e ∷ f ∷ fs else f ∷ inserted e fs) block ≡ true
    by_test true (inl own) rest = or_left (covers e block) (covers f block || covered fs block) own
    by_test true (inr inside) rest = or_right (covers e block) (covers f block || covered fs block) inside
    by_test false (inl own) rest = or_right (covers f block) (covered (inserted e fs) block) (rest (inl own))
    by_test false (inr inside) rest = by_case (or_cases (covers f block) (covered fs block) inside)
      where
        by_case : ((covers f block ≡ true) ⊎ (covered fs block ≡ true))
            → (covers f block || covered (inserted e fs) block) ≡ true
        by_case (inl here) = or_left (covers f block) (covered (inserted e fs) block) here
        by_case (inr later) = or_right (covers f block) (covered (inserted e fs) block) (rest (inr later))

-- where one has no block of the other's, the other has none of its
pub room_back : (e f : Extent) → ((block : ℕ) → f.block ≤ block → block < f.block + size f → covers e block ≡ false)
    → (block : ℕ) → e.block ≤ block → block < e.block + size e → covers f block ≡ false
room_back e f none block low high = false_if (covers f block) (λ h.
    let p = covers_parts f block h in
    let wrong : true ≡ false = sym (covers_from e block low high) ∙ none block p.0 p.1 in absurd (cc))

pub apart-inserted : (e : Extent) (live : List Extent) → IsRoom live (size e) e.block → AreApart live
    → AreApart (inserted e live)
unfolding covered inserted
apart-inserted e [] room apart = ((λ block low high. refl), tt)
apart-inserted e (f ∷ fs) room apart = by_test (nat_lt e.id f.id)
    (apart-inserted e fs (λ block low high. (or_parts (covers f block) (covered fs block) (room block low high)).1)
    apart.1)
  where
    by_test : (t : Bool) → AreApart (inserted e fs) → AreApart (if t then e ∷ f ∷ fs else f ∷ inserted e fs)
    by_test true rest = (room, apart)
    by_test false rest = (
      (λ block low high. false_if (covered (inserted e fs) block)
          (λ h. by_case block low high (inserted_in e fs block h))),
      rest,
    )
      where
        by_case : (block : ℕ) → f.block ≤ block → block < f.block + size f → (covers e block ≡ true)
            ⊎ (covered fs block ≡ true) → ⊥
        by_case block low high (inl own) =
            let none = room_back f e (λ b l h. (or_parts (covers f b) (covered fs b) (room b l h)).0) block low high in
            let wrong : true ≡ false = sym own ∙ none in absurd (cc)
        by_case block low high (inr inside) = let wrong : true ≡ false = sym inside ∙ apart.0 block low high
            in absurd (cc)

-- bytes that none has are looked for among more
pub none-inserted : (e : Extent) (live : List Extent) (bytes : List ℕ) → has_bytes bytes e ≡ false
    → with_bytes live bytes ≡ None → with_bytes (inserted e live) bytes ≡ None
unfolding with_bytes inserted
none-inserted e [] bytes other none = ap (λ (b : Bool). cond b (Some e) None) other
none-inserted e (f ∷ fs) bytes other none = by_test (nat_lt e.id f.id) (none-inserted e fs bytes other)
  where
    first : (t : Bool) → has_bytes bytes f ≡ t → has_bytes bytes f ≡ false
    first true h = let wrong : Some f ≡ None = sym (ap (λ (b : Bool). cond b (Some f) (with_bytes fs bytes)) h) ∙ none
        in absurd (cc)
    first false h = h

    not_first : has_bytes bytes f ≡ false
    not_first = first (has_bytes bytes f) refl

    rest_none : with_bytes fs bytes ≡ None
    rest_none = sym (ap (λ (b : Bool). cond b (Some f) (with_bytes fs bytes)) not_first) ∙ none

    by_test : (t : Bool) → (with_bytes fs bytes ≡ None → with_bytes (inserted e fs) bytes ≡ None)
        → with_bytes (if t then e ∷ f ∷ fs else f ∷ inserted e fs) bytes ≡ None
    by_test true rest = ap (λ (b : Bool). cond b (Some e) (with_bytes (f ∷ fs) bytes)) other ∙ none
    by_test false rest = ap (λ (b : Bool). cond b (Some f) (with_bytes (inserted e fs) bytes)) not_first
        ∙ rest rest_none

-- what a search that finds none tells of the first, and of the others
pub none_first : (e : Extent) (live : List Extent) (bytes : List ℕ) → with_bytes (e ∷ live) bytes ≡ None
    → has_bytes bytes e ≡ false
unfolding with_bytes
none_first e live bytes none = by_test (has_bytes bytes e) refl
  where
    by_test : (t : Bool) → has_bytes bytes e ≡ t → has_bytes bytes e ≡ false
    by_test true h = let wrong : Some e ≡ None = sym (ap (λ (b : Bool). cond b (Some e) (with_bytes live bytes)) h)
        ∙ none in absurd (cc)
    by_test false h = h

pub none_others : (e : Extent) (live : List Extent) (bytes : List ℕ) → with_bytes (e ∷ live) bytes ≡ None
    → with_bytes live bytes ≡ None
unfolding with_bytes
none_others e live bytes none = sym (ap (λ (b : Bool). cond b (Some e) (with_bytes live bytes))
    (none_first e live bytes none)) ∙ none

pub none_from : (e : Extent) (live : List Extent) (bytes : List ℕ) → has_bytes bytes e ≡ false → with_bytes live bytes
    ≡ None → with_bytes (e ∷ live) bytes ≡ None
unfolding with_bytes
none_from e live bytes other none = ap (λ (b : Bool). cond b (Some e) (with_bytes live bytes)) other ∙ none

other_bytes : (a b : List ℕ) → bytes_eq a b ≡ false → bytes_eq b a ≡ false
other_bytes a b h = false_if (bytes_eq b a) (λ same. let equal : b ≡ a = (bytes_eq-Decides b a).0 same
    in let wrong : true ≡ false = sym ((bytes_eq-Decides a b).1 (sym equal)) ∙ h in absurd (cc))

pub distinct-inserted : (e : Extent) (live : List Extent) → with_bytes live e.bytes ≡ None → AreDistinct live
    → AreDistinct (inserted e live)
unfolding inserted
distinct-inserted e [] none distinct = (none, tt)
distinct-inserted e (f ∷ fs) none distinct = by_test (nat_lt e.id f.id)
    (distinct-inserted e fs (none_others f fs e.bytes none) distinct.1)
  where
    by_test : (t : Bool) → AreDistinct (inserted e fs) → AreDistinct (if t then e ∷ f ∷ fs else f ∷ inserted e fs)
    by_test true rest = (none, distinct)
    by_test false rest = (
      none-inserted e fs f.bytes (other_bytes f.bytes e.bytes (none_first f fs e.bytes none))
          distinct.0,
      rest,
    )

pub count-inserted : (e : Extent) (live : List Extent) (h : ℕ) → count_of_hash h (inserted e live)
    ≡ (if has_hash h e then 1 else 0) + count_of_hash h live
unfolding inserted count_of_hash
count-inserted e [] h = refl
count-inserted e (f ∷ fs) h = by_test (nat_lt e.id f.id) (count-inserted e fs h)
  where
    by_test : (t : Bool) → count_of_hash h (inserted e fs) ≡ (if has_hash h e then 1 else 0) + count_of_hash h fs
        → count_of_hash h (if t then e ∷ f ∷ fs else f ∷ inserted e fs) ≡ (if has_hash h e then 1 else 0)
        + ((if has_hash h f then 1 else 0) + count_of_hash h fs)
    by_test true rest = refl
    by_test false rest = ap (λ (n : ℕ). (if has_hash h f then 1 else 0) + n) rest
        ∙ swap (if has_hash h f then 1 else 0) (if has_hash h e then 1 else 0) (count_of_hash h fs)
      where
        swap : (a b c : ℕ) → a + (b + c) ≡ b + (a + c)
        swap a b c = omega arith

pub length-inserted : (e : Extent) (live : List Extent) → length (inserted e live) ≡ suc (length live)
unfolding inserted
length-inserted e [] = refl
length-inserted e (f ∷ fs) = by_test (nat_lt e.id f.id) (length-inserted e fs)
  where
    by_test : (t : Bool) → length (inserted e fs) ≡ suc (length fs)
        → length (if t then e ∷ f ∷ fs else f ∷ inserted e fs) ≡ suc (suc (length fs))
    by_test true rest = refl
    by_test false rest = ap suc rest

-- bytes whose hash none has, none has
pub none_of_hash : (bytes : List ℕ) (live : List Extent) → count_of_hash (hash bytes) live ≡ 0 → with_bytes live bytes
    ≡ None
unfolding count_of_hash with_bytes
none_of_hash bytes [] none = refl
none_of_hash bytes (f ∷ fs) none = by_test (has_bytes bytes f) refl
    (none_of_hash bytes fs (rest_zero (if has_hash (hash bytes) f then 1 else 0) (count_of_hash (hash bytes) fs)
    none))
  where
    rest_zero : (a b : ℕ) → a + b ≡ 0 → b ≡ 0
    rest_zero a b h = omega (arith, h)

    first_zero : (a b : ℕ) → a + b ≡ 0 → a ≡ 0
    first_zero a b h = omega (arith, h)

    by_test : (t : Bool) → has_bytes bytes f ≡ t → with_bytes fs bytes ≡ None → cond t (Some f) (with_bytes fs bytes)
        ≡ None
    by_test true same rest =
        let equal : f.bytes ≡ bytes = (bytes_eq-Decides f.bytes bytes).0 same in
        let one : (if has_hash (hash bytes) f then 1 else 0) ≡ 1 = ap (λ (b : Bool). if b then 1 else 0)
        (eq-eqb (hash f.bytes) (hash bytes) (ap hash equal)) in
        let wrong : 1 ≡ 0 = sym one ∙ first_zero (if has_hash (hash bytes) f then 1 else 0)
        (count_of_hash (hash bytes) fs) none in absurd (omega (arith, wrong))
    by_test false other rest = rest
