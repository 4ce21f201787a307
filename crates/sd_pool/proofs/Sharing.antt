-- What dropping an id and changing its sharers do to the facts of a pool.
use Rattle.std.proofs.Common.{◌≡◌, ◌⊎◌, inl, inr, ℕ, suc, ◌+◌, ◌-◌, Bool, true, false, ◌||◌, cond, None, Some, List}
use Rattle.std.proofs.Common.{[], ◌∷◌, length, refl, ap, sym, ◌∙◌, arith}
use Rattle.std.specs.Prelude.{◌==◌, if◌then◌else◌}
use Rattle.std.proofs.lemmas.Bool.{or_cases, eq-eqb}
use Rattle.sd_pool.specs.Blocks.{Extent, covers, covered}
use Rattle.sd_pool.specs.Pool.{has_id, extent_of, with_bytes, shared, given_back, AreApart, AreDistinct}
use Rattle.sd_pool.specs.Slots.{dropped, with_sharers}
use Rattle.sd_pool.specs.Tallies.{has_hash, count_of_hash}
use Rattle.sd_pool.proofs.HoleLaws.{false_if}
use Rattle.sd_pool.proofs.HoleChanges.{or_left, or_right}
use Rattle.sd_pool.proofs.Covering.{covers_parts, none_first, none_others, none_from}

-- what a search for an id tells of the first
found_first : (id : ℕ) (f : Extent) (fs : List Extent) → has_id id f ≡ true → extent_of (f ∷ fs) id ≡ Some f
unfolding extent_of
found_first id f fs h = ap (λ (b : Bool). cond b (Some f) (extent_of fs id)) h

found_later : (id : ℕ) (f : Extent) (fs : List Extent) → has_id id f ≡ false → extent_of (f ∷ fs) id ≡ extent_of fs id
unfolding extent_of
found_later id f fs h = ap (λ (b : Bool). cond b (Some f) (extent_of fs id)) h

-- the extent that a search finds is the first with the id
same_first : (id : ℕ) (e f : Extent) (fs : List Extent) → has_id id f ≡ true → extent_of (f ∷ fs) id ≡ Some e → f ≡ e
same_first id e f fs h found = some_same (sym (found_first id f fs h) ∙ found)
  where
    some_same : Some f ≡ Some e → f ≡ e
    some_same h = cc

-- ---- which definition says what of the id

pub shared_is : (id : ℕ) (e : Extent) (live : List Extent) → extent_of live id ≡ Some e → shared id live
    ≡ with_sharers id (e.sharers + 1) live
unfolding shared with_sharers
shared_is id e [] found = refl
shared_is id e (f ∷ fs) found = by_test (has_id id f) refl (λ h. shared_is id e fs h)
  where
    by_test : (t : Bool) → has_id id f ≡ t
        → (extent_of fs id ≡ Some e → shared id fs ≡ with_sharers id (e.sharers + 1) fs)
        → (if t then record f { sharers = f.sharers + 1 } ∷ fs else f ∷ shared id fs)
        ≡ (if t then record f { sharers = e.sharers + 1 } ∷ fs else f ∷ with_sharers id (e.sharers + 1) fs)
    by_test true h rest = ap (λ (x : Extent). record f { sharers = x.sharers + 1 } ∷ fs) (same_first id e f fs h found)
    by_test false h rest = ap (λ (xs : List Extent). f ∷ xs) (rest (sym (found_later id f fs h) ∙ found))

pub given_back_last : (id : ℕ) (e : Extent) (live : List Extent) → extent_of live id ≡ Some e → e.sharers ≡ 1
    → given_back id live ≡ dropped id live
unfolding given_back dropped
given_back_last id e [] found last = refl
given_back_last id e (f ∷ fs) found last = by_test (has_id id f) refl (λ h. given_back_last id e fs h last)
  where
    by_test : (t : Bool) → has_id id f ≡ t → (extent_of fs id ≡ Some e → given_back id fs ≡ dropped id fs)
        → (if t then (if f.sharers == 1 then fs else record f { sharers = f.sharers - 1 } ∷ fs) else f
        ∷ given_back id fs) ≡ (if t then fs else f ∷ dropped id fs)
    by_test true h rest = ap (λ (b : Bool). if b then fs else record f { sharers = f.sharers - 1 } ∷ fs)
        (eq-eqb f.sharers 1 (ap (λ (x : Extent). x.sharers) (same_first id e f fs h found) ∙ last))
    by_test false h rest = ap (λ (xs : List Extent). f ∷ xs) (rest (sym (found_later id f fs h) ∙ found))

pub given_back_more : (id : ℕ) (e : Extent) (live : List Extent) → extent_of live id ≡ Some e → (e.sharers == 1)
    ≡ false → given_back id live ≡ with_sharers id (e.sharers - 1) live
unfolding given_back with_sharers
given_back_more id e [] found more = refl
given_back_more id e (f ∷ fs) found more = by_test (has_id id f) refl (λ h. given_back_more id e fs h more)
  where
    by_test : (t : Bool) → has_id id f ≡ t
        → (extent_of fs id ≡ Some e → given_back id fs ≡ with_sharers id (e.sharers - 1) fs)
        → (if t then (if f.sharers == 1 then fs else record f { sharers = f.sharers - 1 } ∷ fs) else f
        ∷ given_back id fs) ≡ (if t then record f { sharers = e.sharers - 1 } ∷ fs else f
        ∷ with_sharers id (e.sharers - 1) fs)
    by_test true h rest =
        let same = same_first id e f fs h found in
        ap (λ (b : Bool). if b then fs else record f { sharers = f.sharers - 1 } ∷ fs)
        (ap (λ (x : Extent). x.sharers == 1) same ∙ more)
        ∙ ap (λ (x : Extent). record f { sharers = x.sharers - 1 } ∷ fs) same
    by_test false h rest = ap (λ (xs : List Extent). f ∷ xs) (rest (sym (found_later id f fs h) ∙ found))

-- ---- other sharers leave blocks and bytes

pub covered-sharers : (id n : ℕ) (live : List Extent) (block : ℕ) → covered (with_sharers id n live) block
    ≡ covered live block
unfolding covered covers with_sharers
covered-sharers id n [] block = refl
covered-sharers id n (f ∷ fs) block = by_test (has_id id f) (covered-sharers id n fs block)
  where
    by_test : (t : Bool) → covered (with_sharers id n fs) block ≡ covered fs block
        → covered (if t then record f { sharers = n } ∷ fs else f ∷ with_sharers id n fs) block
        ≡ (covers f block || covered fs block)
    by_test true rest = refl
    by_test false rest = ap (λ (b : Bool). covers f block || b) rest

pub none-sharers : (id n : ℕ) (live : List Extent) (bytes : List ℕ) → with_bytes live bytes ≡ None
    → with_bytes (with_sharers id n live) bytes ≡ None
unfolding with_bytes with_sharers
none-sharers id n [] bytes none = refl
none-sharers id n (f ∷ fs) bytes none = by_test (has_id id f) (none-sharers id n fs bytes (none_others f fs bytes none))
  where
    by_test : (t : Bool) → with_bytes (with_sharers id n fs) bytes ≡ None
        → with_bytes (if t then record f { sharers = n } ∷ fs else f ∷ with_sharers id n fs) bytes ≡ None
    by_test true rest = none_from (record f { sharers = n }) fs bytes (none_first f fs bytes none)
        (none_others f fs bytes none)
    by_test false rest = none_from f (with_sharers id n fs) bytes (none_first f fs bytes none) rest

pub apart-sharers : (id n : ℕ) (live : List Extent) → AreApart live → AreApart (with_sharers id n live)
unfolding with_sharers
apart-sharers id n [] apart = tt
apart-sharers id n (f ∷ fs) apart = by_test (has_id id f) (apart-sharers id n fs apart.1)
  where
    by_test : (t : Bool) → AreApart (with_sharers id n fs)
        → AreApart (if t then record f { sharers = n } ∷ fs else f ∷ with_sharers id n fs)
    by_test true rest = apart
    by_test false rest = ((λ block low high. covered-sharers id n fs block ∙ apart.0 block low high), rest)

pub distinct-sharers : (id n : ℕ) (live : List Extent) → AreDistinct live → AreDistinct (with_sharers id n live)
unfolding with_sharers
distinct-sharers id n [] distinct = tt
distinct-sharers id n (f ∷ fs) distinct = by_test (has_id id f) (distinct-sharers id n fs distinct.1)
  where
    by_test : (t : Bool) → AreDistinct (with_sharers id n fs)
        → AreDistinct (if t then record f { sharers = n } ∷ fs else f ∷ with_sharers id n fs)
    by_test true rest = distinct
    by_test false rest = (none-sharers id n fs f.bytes distinct.0, rest)

pub count-sharers : (id n : ℕ) (live : List Extent) (h : ℕ) → count_of_hash h (with_sharers id n live)
    ≡ count_of_hash h live
unfolding count_of_hash with_sharers
count-sharers id n [] h = refl
count-sharers id n (f ∷ fs) h = by_test (has_id id f) (count-sharers id n fs h)
  where
    by_test : (t : Bool) → count_of_hash h (with_sharers id n fs) ≡ count_of_hash h fs
        → count_of_hash h (if t then record f { sharers = n } ∷ fs else f ∷ with_sharers id n fs)
        ≡ (if has_hash h f then 1 else 0) + count_of_hash h fs
    by_test true rest = refl
    by_test false rest = ap (λ (m : ℕ). (if has_hash h f then 1 else 0) + m) rest

pub length-sharers : (id n : ℕ) (live : List Extent) → length (with_sharers id n live) ≡ length live
unfolding with_sharers
length-sharers id n [] = refl
length-sharers id n (f ∷ fs) = by_test (has_id id f) (length-sharers id n fs)
  where
    by_test : (t : Bool) → length (with_sharers id n fs) ≡ length fs
        → length (if t then record f { sharers = n } ∷ fs else f ∷ with_sharers id n fs) ≡ suc (length fs)
    by_test true rest = refl
    by_test false rest = ap suc rest

-- ---- an id less

not_found : (id : ℕ) (e : Extent) → extent_of [] id ≡ Some e → ⊥
unfolding extent_of
not_found id e found = absurd (cc)

-- a block of an extent is covered
pub covered_by : (id : ℕ) (e : Extent) (live : List Extent) (block : ℕ) → extent_of live id ≡ Some e → covers e block
    ≡ true → covered live block ≡ true
unfolding covered
covered_by id e [] block found h = absurd (not_found id e found)
covered_by id e (f ∷ fs) block found h = by_test (has_id id f) refl (λ later. covered_by id e fs block later h)
  where
    by_test : (t : Bool) → has_id id f ≡ t → (extent_of fs id ≡ Some e → covered fs block ≡ true)
        → (covers f block || covered fs block) ≡ true
    by_test true own rest = or_left (covers f block) (covered fs block)
        (ap (λ (x : Extent). covers x block) (same_first id e f fs own found) ∙ h)
    by_test false other rest = or_right (covers f block) (covered fs block)
        (rest (sym (found_later id f fs other) ∙ found))

-- what fewer cover, all do
fewer : (id : ℕ) (live : List Extent) (block : ℕ) → covered (dropped id live) block ≡ true → covered live block ≡ true
unfolding covered dropped
fewer id [] block h = h
fewer id (f ∷ fs) block h = by_test (has_id id f) h (fewer id fs block)
  where
    by_test : (t : Bool) → covered (if t then fs else f ∷ dropped id fs) block ≡ true
        → (covered (dropped id fs) block ≡ true → covered fs block ≡ true) → (covers f block || covered fs block)
        ≡ true
    by_test true h rest = or_right (covers f block) (covered fs block) h
    by_test false h rest = by_case (or_cases (covers f block) (covered (dropped id fs) block) h)
      where
        by_case : ((covers f block ≡ true) ⊎ (covered (dropped id fs) block ≡ true))
            → (covers f block || covered fs block) ≡ true
        by_case (inl here) = or_left (covers f block) (covered fs block) here
        by_case (inr later) = or_right (covers f block) (covered fs block) (rest later)

pub dropped_in : (id : ℕ) (e : Extent) (live : List Extent) (block : ℕ) → AreApart live → extent_of live id ≡ Some e
    → covered (dropped id live) block ≡ true → (covered live block ≡ true) × (covers e block ≡ false)
unfolding covered dropped
dropped_in id e [] block apart found h = absurd (cc)
dropped_in id e (f ∷ fs) block apart found h = by_test (has_id id f) refl h
    (λ later. dropped_in id e fs block apart.1 later)
  where
    by_test : (t : Bool) → has_id id f ≡ t → covered (if t then fs else f ∷ dropped id fs) block ≡ true
        → (extent_of fs id ≡ Some e → covered (dropped id fs) block ≡ true → (covered fs block ≡ true)
        × (covers e block ≡ false))
        → ((covers f block || covered fs block) ≡ true) × (covers e block ≡ false)
    by_test true own h rest = (
      or_right (covers f block) (covered fs block) h,
      false_if (covers e block) (λ inside.
          let same = same_first id e f fs own found in
          let p = covers_parts f block (ap (λ (x : Extent). covers x block) same ∙ inside) in
          let wrong : true ≡ false = sym h ∙ apart.0 block p.0 p.1 in absurd (cc)),
    )
    by_test false other h rest = by_case (or_cases (covers f block) (covered (dropped id fs) block) h)
      where
        later : extent_of fs id ≡ Some e
        later = sym (found_later id f fs other) ∙ found

        by_case : ((covers f block ≡ true) ⊎ (covered (dropped id fs) block ≡ true))
            → ((covers f block || covered fs block) ≡ true) × (covers e block ≡ false)
        by_case (inl here) = (
          or_left (covers f block) (covered fs block) here,
          false_if (covers e block) (λ inside.
              let p = covers_parts f block here in
              let wrong : true ≡ false = sym (covered_by id e fs block later inside) ∙ apart.0 block p.0 p.1
              in absurd (cc)),
        )
        by_case (inr there) = let r = rest later there in (or_right (covers f block) (covered fs block) r.0, r.1)

pub dropped_out : (id : ℕ) (e : Extent) (live : List Extent) (block : ℕ) → extent_of live id ≡ Some e
    → covered live block ≡ true → covers e block ≡ false → covered (dropped id live) block ≡ true
unfolding covered dropped
dropped_out id e [] block found h out = absurd (cc)
dropped_out id e (f ∷ fs) block found h out = by_test (has_id id f) refl
    (or_cases (covers f block) (covered fs block) h) (λ later inside. dropped_out id e fs block later inside out)
  where
    by_test : (t : Bool) → has_id id f ≡ t → ((covers f block ≡ true) ⊎ (covered fs block ≡ true))
        → (extent_of fs id ≡ Some e → covered fs block ≡ true → covered (dropped id fs) block ≡ true)
        → covered (if t then fs else f ∷ dropped id fs) block ≡ true
    by_test true own (inl here) rest = let wrong : true ≡ false = sym here ∙ ap (λ (x : Extent). covers x block)
        (same_first id e f fs own found) ∙ out in absurd (cc)
    by_test true own (inr later) rest = later
    by_test false other (inl here) rest = or_left (covers f block) (covered (dropped id fs) block) here
    by_test false other (inr later) rest = or_right (covers f block) (covered (dropped id fs) block)
        (rest (sym (found_later id f fs other) ∙ found) later)

pub apart-dropped : (id : ℕ) (live : List Extent) → AreApart live → AreApart (dropped id live)
unfolding dropped
apart-dropped id [] apart = tt
apart-dropped id (f ∷ fs) apart = by_test (has_id id f) (apart-dropped id fs apart.1)
  where
    by_test : (t : Bool) → AreApart (dropped id fs) → AreApart (if t then fs else f ∷ dropped id fs)
    by_test true rest = apart.1
    by_test false rest = (
      (λ block low high. false_if (covered (dropped id fs) block)
          (λ h. let wrong : true ≡ false = sym (fewer id fs block h) ∙ apart.0 block low high in absurd (cc))),
      rest,
    )

pub none-dropped : (id : ℕ) (live : List Extent) (bytes : List ℕ) → with_bytes live bytes ≡ None
    → with_bytes (dropped id live) bytes ≡ None
unfolding dropped
none-dropped id [] bytes none = none
none-dropped id (f ∷ fs) bytes none = by_test (has_id id f) (none-dropped id fs bytes (none_others f fs bytes none))
  where
    by_test : (t : Bool) → with_bytes (dropped id fs) bytes ≡ None → with_bytes (if t then fs else f ∷ dropped id fs)
        bytes ≡ None
    by_test true rest = none_others f fs bytes none
    by_test false rest = none_from f (dropped id fs) bytes (none_first f fs bytes none) rest

pub distinct-dropped : (id : ℕ) (live : List Extent) → AreDistinct live → AreDistinct (dropped id live)
unfolding dropped
distinct-dropped id [] distinct = tt
distinct-dropped id (f ∷ fs) distinct = by_test (has_id id f) (distinct-dropped id fs distinct.1)
  where
    by_test : (t : Bool) → AreDistinct (dropped id fs) → AreDistinct (if t then fs else f ∷ dropped id fs)
    by_test true rest = distinct.1
    by_test false rest = (none-dropped id fs f.bytes distinct.0, rest)

pub count-dropped : (id : ℕ) (e : Extent) (live : List Extent) (h : ℕ) → extent_of live id ≡ Some e
    → count_of_hash h live ≡ (if has_hash h e then 1 else 0) + count_of_hash h (dropped id live)
unfolding count_of_hash dropped
count-dropped id e [] h found = absurd (not_found id e found)
count-dropped id e (f ∷ fs) h found = by_test (has_id id f) refl (λ later. count-dropped id e fs h later)
  where
    by_test : (t : Bool) → has_id id f ≡ t
        → (extent_of fs id ≡ Some e → count_of_hash h fs ≡ (if has_hash h e then 1 else 0)
        + count_of_hash h (dropped id fs))
        → (if has_hash h f then 1 else 0) + count_of_hash h fs ≡ (if has_hash h e then 1 else 0)
        + count_of_hash h (if t then fs else f ∷ dropped id fs)
    by_test true own rest = ap (λ (x : Extent). (if has_hash h x then 1 else 0) + count_of_hash h fs)
        (same_first id e f fs own found)
    by_test false other rest = ap (λ (n : ℕ). (if has_hash h f then 1 else 0) + n)
        (rest (sym (found_later id f fs other) ∙ found)) ∙ swap (if has_hash h f then 1 else 0)
        (if has_hash h e then 1 else 0) (count_of_hash h (dropped id fs))
      where
        swap : (a b c : ℕ) → a + (b + c) ≡ b + (a + c)
        swap a b c = omega arith

pub length-dropped : (id : ℕ) (e : Extent) (live : List Extent) → extent_of live id ≡ Some e → length live
    ≡ suc (length (dropped id live))
unfolding dropped
length-dropped id e [] found = absurd (not_found id e found)
length-dropped id e (f ∷ fs) found = by_test (has_id id f) refl (λ later. length-dropped id e fs later)
  where
    by_test : (t : Bool) → has_id id f ≡ t → (extent_of fs id ≡ Some e → length fs ≡ suc (length (dropped id fs)))
        → suc (length fs) ≡ suc (length (if t then fs else f ∷ dropped id fs))
    by_test true own rest = refl
    by_test false other rest = ap suc (rest (sym (found_later id f fs other) ∙ found))
