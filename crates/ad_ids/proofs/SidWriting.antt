-- Sub-authorities that are written one after the other.
use Rattle.std.proofs.Common.{◌≡◌, ℕ, ◌+◌, ◌*◌, ◌<◌, ◌^◌, List, [], ◌∷◌, ◌++◌, length, take, drop, get_or, refl, sym}
use Rattle.std.proofs.Common.{ap, subst, ◌∙◌, append_assoc, arith}
use Rattle.std.specs.List.{flat_map, AllByRecursion}
use Rattle.std.specs.Int.{w32, to_le_bytes}
use Rattle.std.proofs.lemmas.List.{take_at, take_more, length-append, length-take}
use Rattle.std.proofs.lemmas.List.Concat.{flat_map-append}
use Rattle.std.proofs.lemmas.List.{append-nil}
use Rattle.ad_bytes.specs.Numbers.{be_bytes, le_bytes}
use Rattle.ad_bytes.proofs.Codec.{length-be_bytes, length-le_bytes}
use Rattle.ad_ids.specs.declared.sid.Sid.TheInside.{Inside}
use Rattle.ad_ids.specs.SidValue.{SidValue}
use Rattle.ad_ids.specs.SidFields.{value_of, IsPadded}
use Rattle.ad_ids.specs.Sid.{IsSid, sid_bytes}

abbrev pub words : List ℕ → List ℕ
words xs = flat_map (le_bytes 4) xs

-- four bytes each
pub length-words : (xs : List ℕ) → length (flat_map (le_bytes 4) xs) ≡ 4 * length xs
length-words [] = refl
length-words (x ∷ xs) = omega (arith, length-append (le_bytes 4 x) (words xs), length-le_bytes 4 x, length-words xs)

-- std's four bytes are these
pub four_bytes : (n : ℕ) → to_le_bytes w32 n ≡ le_bytes 4 n
unfolding le_bytes
four_bytes n = refl

words_more : (xs : List ℕ) (i : ℕ) → i < length xs → words (take (i + 1) xs) ≡ words (take i xs)
    ++ le_bytes 4 (get_or xs i 0)
words_more xs i lt =
    ap words (take_more xs i 0 lt) ∙ flat_map-append (le_bytes 4) (take i xs) (get_or xs i 0 ∷ [])
    ∙ ap (λ (r : List ℕ). words (take i xs) ++ r) (append-nil (le_bytes 4 (get_or xs i 0)))

AllByRecursion-push : (xs : List ℕ) (y : ℕ) → AllByRecursion (λ n. n < 2 ^ 32) xs → y < 2 ^ 32
    → AllByRecursion (λ n. n < 2 ^ 32) (xs ++ y ∷ [])
AllByRecursion-push [] y all lt = (lt, tt)
AllByRecursion-push (x ∷ xs) y all lt = (all.0, AllByRecursion-push xs y all.1 lt)

-- one more number fits
pub fit_more : (xs : List ℕ) (i : ℕ) → i < length xs → AllByRecursion (λ n. n < 2 ^ 32) (take i xs) → get_or xs i 0
    < 2 ^ 32 → AllByRecursion (λ n. n < 2 ^ 32) (take (i + 1) xs)
fit_more xs i lt all one = rw (take_more xs i 0 lt) (AllByRecursion-push (take i xs) (get_or xs i 0) all one)

-- one more number is written
pub written_more : (now old text xs bytes : List ℕ) (at i : ℕ) → i < length xs → bytes ≡ to_le_bytes w32 (get_or xs i 0)
    → now ≡ ((text ++ words (take i xs)) ++ bytes) ++ drop (at + 4 * i + length bytes) old
    → now ≡ (text ++ words (take (i + 1) xs)) ++ drop (at + 4 * (i + 1)) old
written_more now old text xs bytes at i lt b e =
    let same : bytes ≡ le_bytes 4 (get_or xs i 0) = b ∙ four_bytes (get_or xs i 0) in
    let four : length bytes ≡ 4 = rw same (length-le_bytes 4 (get_or xs i 0)) in
    let end : at + 4 * i + length bytes ≡ at + 4 * (i + 1) = omega arith in
    e ∙ ap (λ (n : ℕ). ((text ++ words (take i xs)) ++ bytes) ++ drop n old) end
    ∙ ap (λ (r : List ℕ). r ++ drop (at + 4 * (i + 1)) old)
    (append_assoc text (words (take i xs)) bytes ∙ ap (λ (r : List ℕ). text ++ (words (take i xs) ++ r)) same
    ∙ ap (λ (r : List ℕ). text ++ r) (sym (words_more xs i lt)))

-- ---- the identifier

sub_authorities_count : (s : Inside) (v : SidValue) → value_of s ≡ v → IsPadded s → length v.sub_authorities ≡ s.count
sub_authorities_count s v e h = omega (
  arith,
  ap (λ (w : SidValue). length w.sub_authorities) e,
  length-take s.count
      s.places,
  h.places,
  h.at_most_15,
)

pub length-sid_bytes : (v : SidValue) → length (sid_bytes v) ≡ 8 + 4 * length v.sub_authorities
unfolding sid_bytes
length-sid_bytes v = omega (
  arith,
  length-append (be_bytes 6 v.authority) (words v.sub_authorities),
  length-be_bytes 6
      v.authority,
  length-words v.sub_authorities,
)

-- the pieces are the encoding
pub sid_pieces : (s : Inside) (v : SidValue) (authority others : List ℕ) → value_of s ≡ v → IsPadded s → authority
    ≡ be_bytes 6 s.authority → others ≡ v.sub_authorities
    → ((1 ∷ s.count ∷ []) ++ authority) ++ words others ≡ sid_bytes v
unfolding sid_bytes
sid_pieces s v authority others e h a o =
    let n = sub_authorities_count s v e h in
    let top : s.authority ≡ v.authority = ap (λ (w : SidValue). w.authority) e in
    rw (a, o, top, ← n) refl

-- what the fields say is an identifier
pub is_sid : (s : Inside) (v : SidValue) → value_of s ≡ v → IsPadded s → AllByRecursion (λ n. n < 2 ^ 32)
    v.sub_authorities → IsSid v
is_sid s v e h all =
    let n = sub_authorities_count s v e h in
    let top : s.authority ≡ v.authority = ap (λ (w : SidValue). w.authority) e in
    record {
      authority = subst (λ (a : ℕ). a < 2 ^ 48) top h.authority;
      at_least_one
          = omega (arith, n, h.at_least_one);
      at_most_15 = omega (arith, n, h.at_most_15);
      sub_authorities = all;
    }

-- what was written, by the number of bytes
pub written_by : (s : Inside) (v : SidValue) (now old : List ℕ) (count m : ℕ) → value_of s ≡ v → IsPadded s → count
    ≡ s.count → m ≡ length v.sub_authorities
    → now ≡ sid_bytes v ++ drop (8 + 4 * m) old → now ≡ sid_bytes v ++ drop (8 + 4 * count) old
written_by s v now old count m e h c k w =
    let n = sub_authorities_count s v e h in
    let same : m ≡ count = omega arith in
    w ∙ ap (λ (i : ℕ). sid_bytes v ++ drop (8 + 4 * i) old) same

pub front_of_written : (s : Inside) (v : SidValue) (now rest : List ℕ) (count : ℕ) → value_of s ≡ v → IsPadded s
    → count ≡ s.count → now ≡ sid_bytes v ++ rest → take (8 + 4 * count) now ≡ sid_bytes v
front_of_written s v now rest count e h c w =
    let n = sub_authorities_count s v e h in
    let len : length (sid_bytes v) ≡ 8 + 4 * count = omega (arith, length-sid_bytes v) in
    ap (take (8 + 4 * count)) w ∙ take_at (sid_bytes v) rest (8 + 4 * count) len

-- how many bytes were written
pub sized : (s : Inside) (v : SidValue) (count : ℕ) → value_of s ≡ v → IsPadded s → count ≡ s.count → 8 + 4 * count
    ≡ length (sid_bytes v)
sized s v count e h c =
    let n = sub_authorities_count s v e h in
    omega (arith, length-sid_bytes v)
