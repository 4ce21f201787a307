-- Flags of a list, entries and parts, as they are read one after the other.
use Rattle.std.proofs.Common.{Bool, eqb, true, false, ◌≡◌, ℕ, zero, suc, ◌<◌, ◌≤◌, Option, Some, None, List, [], ◌∷◌}
use Rattle.std.proofs.Common.{◌++◌, length, drop, Result, Ok, Err, codes, refl, sym, ap, ◌∙◌, append_assoc, arith}
use Rattle.std.specs.Prelude.{◌||◌}
use Rattle.std.proofs.lemmas.List.{append-nil}
use Rattle.ad_bytes.specs.Reading.{Reading, ◌>>=◌}
use Rattle.ad_bytes.proofs.Many.{with_front}
use Rattle.ad_ids.specs.SidValue.{SidValue}
use Rattle.ad_acl.specs.Entry.{Entry}
use Rattle.ad_sd.specs.declared.parts.SdParts.{SdParts}
use Rattle.ad_sddl.specs.declared.fault.ParseError.{ParseError}
use Rattle.ad_sddl.specs.Words.{begins}
use Rattle.ad_sddl.specs.Reading.{list_flag_at, list_flags_at, entry_at, entries_at, part_at, rest_at}

-- ---- flags of a list

pub flags_more : (n : ℕ) (protected is_p next : Bool) (bytes after : List ℕ) (most : ℕ) (total : Bool × List ℕ)
    → length bytes ≤ most → protected || is_p ≡ next → length bytes ≤ n → length after < length bytes
    → Some (is_p, after) ≡ list_flag_at bytes → list_flags_at n protected bytes ≡ total → (m : ℕ)
    × ((length after ≤ m) × ((length after ≤ most) × (list_flags_at m next after ≡ total)))
unfolding list_flags_at
flags_more zero protected is_p next bytes after most total within is le shorter read so_far
    = absurd (omega (arith, le, shorter))
flags_more (suc n) protected is_p next bytes after most total within is le shorter read so_far =
    let one : list_flags_at (suc n) protected bytes ≡ list_flags_at n (protected || is_p) after
    = rw (sym read) refl in (
      n,
      (
        omega (arith, le, shorter),
        (
          omega (arith, within, shorter),
          ap (λ (p : Bool). list_flags_at n p after)
              (sym is) ∙ sym one ∙ so_far,
        ),
      ),
    )

pub or_true : (p q : Bool) → p ≡ true → p || q ≡ p
or_true p q e = rw e refl

pub or_false : (p q : Bool) → p ≡ false → p || q ≡ q
or_false p q e = rw e refl

pub flags_end : (n : ℕ) (protected : Bool) (bytes : List ℕ) (total : Bool × List ℕ) → None ≡ list_flag_at bytes
    → list_flags_at n protected bytes ≡ total → (protected, bytes) ≡ total
unfolding list_flags_at
flags_end zero protected bytes total read so_far = so_far
flags_end (suc n) protected bytes total read so_far =
    let one : list_flags_at (suc n) protected bytes ≡ (protected, bytes) = rw (sym read) refl in
    sym one ∙ so_far

-- ---- entries

regroup : (front : List Entry) (x : Entry) (read : Reading (List Entry) ParseError)
    → with_front front (read >>= λ y. Ok (x ∷ y.0, y.1)) ≡ with_front (front ++ x ∷ []) read
regroup front x (Ok y) = ap (λ (xs : List Entry). Ok (xs, y.1)) (simp append_assoc)
regroup front x (Err f) = refl

pub entries_more : (domain : Option SidValue) (n : ℕ) (front : List Entry) (bytes behind : List ℕ) (x : Entry)
    (after : List ℕ) (most : ℕ) (total : Reading (List Entry) ParseError) → length bytes ≤ most → length bytes ≤ n
    → length after < length bytes
    → begins (codes "(") bytes ≡ true → behind ≡ drop 1 bytes → entry_at domain behind ≡ Ok (x, after)
    → with_front front (entries_at domain n bytes) ≡ total
    → (m : ℕ) × ((length after ≤ m) × ((length after ≤ most)
    × (with_front (front ++ x ∷ []) (entries_at domain m after) ≡ total)))
unfolding entries_at
entries_more domain zero front bytes behind x after most total within le shorter begun rest read so_far
    = absurd (omega (arith, le, shorter))
entries_more domain (suc n) front bytes behind x after most total within le shorter begun rest read so_far =
    let there : entry_at domain (drop 1 bytes) ≡ Ok (x, after) = ap (entry_at domain) (sym rest) ∙ read in
    let one : with_front front (entries_at domain (suc n) bytes) ≡ with_front (front ++ x ∷ [])
    (entries_at domain n after) = rw (begun, there) (regroup front x (entries_at domain n after)) in
    (n, (omega (arith, le, shorter), (omega (arith, within, shorter), sym one ∙ so_far)))

pub entries_stop : (domain : Option SidValue) (n : ℕ) (front : List Entry) (bytes behind : List ℕ) (fault : ParseError)
    (total : Reading (List Entry) ParseError) → length bytes ≤ n → 1 ≤ length bytes
    → begins (codes "(") bytes ≡ true → behind ≡ drop 1 bytes → entry_at domain behind ≡ Err fault
    → with_front front (entries_at domain n bytes) ≡ total → total ≡ Err fault
unfolding entries_at
entries_stop domain zero front bytes behind fault total le some begun rest read so_far
    = absurd (omega (arith, le, some))
entries_stop domain (suc n) front bytes behind fault total le some begun rest read so_far =
    let there : entry_at domain (drop 1 bytes) ≡ Err fault = ap (entry_at domain) (sym rest) ∙ read in
    let one : with_front front (entries_at domain (suc n) bytes) ≡ Err fault = rw (begun, there) refl in
    sym so_far ∙ one

pub entries_end : (domain : Option SidValue) (n : ℕ) (front : List Entry) (bytes : List ℕ)
    (total : Reading (List Entry) ParseError)
    → begins (codes "(") bytes ≡ false → with_front front (entries_at domain n bytes) ≡ total → total
    ≡ Ok (front, bytes)
unfolding entries_at
entries_end domain zero front bytes total begun so_far = sym so_far ∙ ap (λ (xs : List Entry). Ok (xs, bytes))
    (append-nil front)
entries_end domain (suc n) front bytes total begun so_far =
    let one : with_front front (entries_at domain (suc n) bytes) ≡ Ok (front, bytes)
    = rw begun (ap (λ (xs : List Entry). Ok (xs, bytes)) (append-nil front)) in
    sym so_far ∙ one

-- ---- parts

pub parts_more : (domain : Option SidValue) (n : ℕ) (parts : SdParts) (bytes : List ℕ) (next : SdParts)
    (after : List ℕ) (total : Result SdParts ParseError) → length bytes < n → length after < length bytes
    → eqb (length after) 0 ≡ false → part_at domain parts bytes ≡ Ok (next, after) → rest_at domain n parts bytes
    ≡ total → (m : ℕ) × ((length after < m) × (rest_at domain m next after ≡ total))
unfolding rest_at
parts_more domain zero parts bytes next after total lt shorter some read so_far = absurd (omega (arith, lt))
parts_more domain (suc n) parts bytes next after total lt shorter some read so_far =
    let one : rest_at domain (suc n) parts bytes ≡ rest_at domain n next after = rw (read, some) refl in
    (n, (omega (arith, lt, shorter), sym one ∙ so_far))

pub parts_stop : (domain : Option SidValue) (n : ℕ) (parts : SdParts) (bytes : List ℕ) (fault : ParseError)
    (total : Result SdParts ParseError) → length bytes < n
    → part_at domain parts bytes ≡ Err fault → rest_at domain n parts bytes ≡ total → total ≡ Err fault
unfolding rest_at
parts_stop domain zero parts bytes fault total lt read so_far = absurd (omega (arith, lt))
parts_stop domain (suc n) parts bytes fault total lt read so_far =
    let one : rest_at domain (suc n) parts bytes ≡ Err fault = rw read refl in
    sym so_far ∙ one

pub parts_end : (domain : Option SidValue) (n : ℕ) (parts : SdParts) (bytes : List ℕ) (next : SdParts)
    (after : List ℕ) (total : Result SdParts ParseError) → length bytes < n
    → eqb (length after) 0 ≡ true → part_at domain parts bytes ≡ Ok (next, after) → rest_at domain n parts bytes
    ≡ total → total ≡ Ok next
unfolding rest_at
parts_end domain zero parts bytes next after total lt none read so_far = absurd (omega (arith, lt))
parts_end domain (suc n) parts bytes next after total lt none read so_far =
    let one : rest_at domain (suc n) parts bytes ≡ Ok next = rw (read, none) refl in
    sym so_far ∙ one
