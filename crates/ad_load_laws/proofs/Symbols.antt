-- What is decoded of base64 is bytes: the value of a symbol is below 64.
use Rattle.std.proofs.Common.{◌≡◌, inl, inr, ℕ, zero, suc, ◌+◌, ◌*◌, ◌/◌, ◌<◌, List, [], ◌∷◌, ◌++◌, drop, Option}
use Rattle.std.proofs.Common.{Some, None, Result, Ok, Err, refl, subst, arith}
use Rattle.std.specs.Prelude.{slice_index, length}
use Rattle.base64.specs.declared.decode.DecodeError.{DecodeError}
use Rattle.base64.specs.declared.engine.general_purpose.GeneralPurpose.{GeneralPurpose}
use Rattle.base64.specs.Decode.{IsDecodeTable, or_else, symbol_error, group_error, group_bytes, groups_error}
use Rattle.base64.specs.Decode.{groups_bytes, groups_before_last, decode_group, no_leftover, push_leftover}
use Rattle.base64.specs.Decode.{scan_steps, scan_last, scan_bytes, lone_error, suffix_bytes, decode_outcome}
use Rattle.base64.specs.Engines.{standard}
use Rattle.base64.specs.GeneralPurpose.{decode_of}
use Rattle.base64.proofs.Decoding.{IsLeftover, IsLeftover_next}
use Rattle.base64.proofs.EngineFacts.{decode_of_bytes}
use Rattle.base64.proofs.Tables.{are_tables_inverse, IsDecodeTable_from}
use Rattle.ad_bytes.specs.Reading.{IsBytes}
use Rattle.ad_bytes.proofs.NumberBytes.{IsBytes-rest, IsBytes-drop, IsBytes-take}

both_none : (x y : Option DecodeError) → or_else x y ≡ None → (x ≡ None) × (y ≡ None)
both_none None y is = (refl, is)
both_none (Some e) y is = absurd cc

no_error : (error : Option DecodeError) (bytes b : List ℕ) → decode_outcome error bytes ≡ Ok b → error ≡ None
no_error None bytes b is = refl
no_error (Some e) bytes b is = absurd cc

-- ---- whole groups

symbol_below : (dec s : List ℕ) (i : ℕ) → IsDecodeTable dec → IsBytes s → symbol_error dec s i ≡ None
    → slice_index dec (slice_index s i) < 64
symbol_below dec s i table fits none = elim (table (slice_index s i) (fits i)) [
  | inl bad ↦ absurd (cc (rw bad at none))
  | inr good ↦ good
]

pub nothing_below : IsBytes []
nothing_below zero = omega arith
nothing_below (suc i) = omega arith

pub more_below : (xs ys : List ℕ) → IsBytes xs → IsBytes ys → IsBytes (xs ++ ys)
more_below [] ys f g i = g i
more_below (x ∷ xs) ys f g zero = f 0
more_below (x ∷ xs) ys f g (suc i) = more_below xs ys (IsBytes-rest x xs f) g i

group_below : (a b c d : ℕ) → a < 64 → b < 64 → c < 64 → d < 64 → IsBytes (decode_group a b c d)
group_below a b c d la lb lc ld zero = omega arith
group_below a b c d la lb lc ld (suc zero) = omega arith
group_below a b c d la lb lc ld (suc (suc zero)) = omega arith
group_below a b c d la lb lc ld (suc (suc (suc i))) = nothing_below i

groups_below : (dec s : List ℕ) (q : ℕ) → IsDecodeTable dec → IsBytes s → groups_error dec s q ≡ None
    → IsBytes (groups_bytes dec s q)
unfolding groups_error groups_bytes
groups_below dec s zero table fits none = nothing_below
groups_below dec s (suc q) table fits none =
    let i : ℕ = 4 * q in
    let parts = both_none (groups_error dec s q) (group_error dec s i) none in
    let p0 = both_none (symbol_error dec s i) _ parts.1 in
    let p1 = both_none (symbol_error dec s (i + 1)) _ p0.1 in
    let p2 = both_none (symbol_error dec s (i + 2)) (symbol_error dec s (i + 3)) p1.1 in
    more_below (groups_bytes dec s q) (group_bytes dec s i) (groups_below dec s q table fits parts.0)
    (group_below _ _ _ _ (symbol_below dec s i table fits p0.0) (symbol_below dec s (i + 1) table fits p1.0)
    (symbol_below dec s (i + 2) table fits p2.0) (symbol_below dec s (i + 3) table fits p2.1))

-- ---- the last group

scan_below : (dec : List ℕ) (pad at : ℕ) (bs : List ℕ) (i : ℕ) (st fin : _) → IsDecodeTable dec → IsBytes bs
    → IsLeftover st i
    → scan_steps dec pad at (Ok st) i bs ≡ Ok fin → (n : ℕ) × IsLeftover fin n
unfolding scan_steps
scan_below dec pad at [] i st fin table fits held is = let same : st ≡ fin = cc
    in (i, subst (λ x. IsLeftover x i) same held)
scan_below dec pad at (b ∷ bs) i st fin table fits held is =
    by (push_leftover dec pad at st i b) refl is
    (λ next. scan_below dec pad at bs (i + 1) next fin table (IsBytes-rest b bs fits))
  where
    by : (r : Result _ DecodeError) → push_leftover dec pad at st i b ≡ r → scan_steps dec pad at r (i + 1) bs ≡ Ok fin
        → ((next : _) → IsLeftover next (i + 1) → scan_steps dec pad at (Ok next) (i + 1) bs ≡ Ok fin → (n : ℕ)
        × IsLeftover fin n)
        → (n : ℕ) × IsLeftover fin n
    by (Err e) pushed rest more = absurd cc
    by (Ok next) pushed rest more = more next (IsLeftover_next dec pad at st i b next table held (fits 0) pushed) rest

none_yet : (k : ℕ) → slice_index (0 ∷ 0 ∷ 0 ∷ 0 ∷ []) k < 64
none_yet zero = omega arith
none_yet (suc zero) = omega arith
none_yet (suc (suc zero)) = omega arith
none_yet (suc (suc (suc zero))) = omega arith
none_yet (suc (suc (suc (suc k)))) = omega arith

last_below : (dec s : List ℕ) (pad at : ℕ) → IsDecodeTable dec → IsBytes s → IsBytes (suffix_bytes dec pad at s)
last_below dec s pad at table fits = by (scan_last dec pad at s) refl
  where
    by : (r : Result _ DecodeError) → scan_last dec pad at s ≡ r → IsBytes (scan_bytes r)
    by (Err e) scanned = nothing_below
    by (Ok st) scanned =
        let below = (scan_below dec pad at (drop at s) 0 no_leftover st table (IsBytes-drop at s fits)
        (omega arith, omega arith, omega arith, none_yet) scanned).1.3 in
        IsBytes-take (st.morsels_count * 6 / 8) _ (group_below _ _ _ _ (below 0) (below 1) (below 2) (below 3))

-- ---- all of it

decode_below : (e : GeneralPurpose) (s b : List ℕ) → IsBytes s → decode_of e s ≡ Ok b → IsBytes b
decode_below e s b fits is =
    let dec = e.decode_table in
    let pad = e.padding.value in
    let q = groups_before_last (length s) in
    let table : IsDecodeTable dec = IsDecodeTable_from e.encode_table dec
    (are_tables_inverse e.encode_table dec pad e.tables) in
    let none = no_error _ _ b is in
    let behind = both_none (lone_error dec pad s) _ none in
    let groups = both_none (groups_error dec s q) _ behind.1 in
    decode_of_bytes e s b (more_below (groups_bytes dec s q) (suffix_bytes dec pad (4 * q) s)
    (groups_below dec s q table fits groups.0) (last_below dec s pad (4 * q) table fits)) is

pub decoded_bytes : (text value : List ℕ) → IsBytes text → decode_of standard text ≡ Ok value → IsBytes value
decoded_bytes text value fits is = decode_below standard text value fits is
