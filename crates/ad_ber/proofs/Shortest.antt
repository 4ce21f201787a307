-- The encoding that is written has as few bytes as any, and is one of the encodings that are read.
use Rattle.std.proofs.Common.{◌≡◌, inl, inr, ◌⊎◌, ℕ, zero, suc, ◌+◌, ◌-◌, ◌*◌, ◌^◌, ◌%◌, ◌<◌, ◌≤◌, Bool, true, false}
use Rattle.std.proofs.Common.{cond, ltb, List, [], ◌∷◌, ◌++◌, length, take, drop, refl, sym, ap, subst, ◌∙◌}
use Rattle.std.proofs.Common.{append_assoc, length-append, arith}
use Rattle.std.specs.Int.{bytes_high_first, to_be_bytes, w64}
use Rattle.std.proofs.lemmas.Bool.{cases_Bool, cases_lt, ltb-true, ltb-false, lt-ltb, le-ltb}
use Rattle.std.proofs.lemmas.List.{take_all}
use Rattle.std.proofs.Math.Nat.{pow-le-pow_right}
use Rattle.ad_bytes.specs.Reading.{StartsWith}
use Rattle.ad_bytes.specs.Numbers.{be_bytes, SpellsByte, SpellsBe, SpellsPart}
use Rattle.ad_bytes.proofs.Codec.{length-be_bytes}
use Rattle.ad_ber.specs.declared.finding.Tagged.{Tagged}
use Rattle.ad_ber.specs.Element.{SpellsLong, SpellsLength, SpellsElement}
use Rattle.ad_ber.specs.Writing.{width, length_bytes, header, element_bytes, number_bytes, number_element}

-- ---- how many bytes a number needs

by_cases : (P : ℕ → Type 0) (b : Bool) (k rest : ℕ) → (b ≡ true → P k) → (b ≡ false → P rest) → P (cond b k rest)
by_cases P true k rest h i = h refl
by_cases P false k rest h i = i refl

fits_or : (n k rest : ℕ) → n < 256 ^ rest → n < 256 ^ (cond (ltb n (256 ^ k)) k rest)
fits_or n k rest h = by_cases (λ m. n < 256 ^ m) (ltb n (256 ^ k)) k rest (λ yes_less. ltb-true _ _ yes_less) (λ _. h)

pub fits_width : (n : ℕ) → n < 2 ^ 64 → n < 256 ^ width n
unfolding width
fits_width n h = fits_or n 1 _ (fits_or n 2 _
    (fits_or n 3 _ (fits_or n 4 _ (fits_or n 5 _ (fits_or n 6 _ (fits_or n 7 8 h))))))

within_or : (b : Bool) (k rest : ℕ) → (1 ≤ k) × (k ≤ 8) → (1 ≤ rest) × (rest ≤ 8) → (1 ≤ cond b k rest)
    × (cond b k rest ≤ 8)
within_or b k rest h i = by_cases (λ m. (1 ≤ m) × (m ≤ 8)) b k rest (λ _. h) (λ _. i)

pub width_within : (n : ℕ) → (1 ≤ width n) × (width n ≤ 8)
unfolding width
width_within n =
    let between : (k : ℕ) → 1 ≤ k → k ≤ 8 → (1 ≤ k) × (k ≤ 8) = λ k a b. (a, b) in
    within_or _ 1 _ (omega arith, omega arith)
    (within_or _ 2 _ (omega arith, omega arith)
    (within_or _ 3 _ (omega arith, omega arith) (within_or _ 4 _ (omega arith, omega arith)
    (within_or _ 5 _ (omega arith, omega arith)
    (within_or _ 6 _ (omega arith, omega arith)
    (within_or _ 7 8 (omega arith, omega arith) (omega arith, omega arith)))))))

-- a number that doesn't fit k bytes and fits m of them
more_than : (n k m : ℕ) → ltb n (256 ^ k) ≡ false → n < 256 ^ m → k < m
more_than n k m no_less fits =
    elim (cases_lt k m) [
      | inl lt ↦ lt
      | inr le ↦ let above : 256 ^ m ≤ 256 ^ k = pow-le-pow_right (omega arith) le
          in absurd (omega (arith, ltb-false _ _ no_less))
    ]

least_or : (n k rest m : ℕ) → k ≤ m → n < 256 ^ m → (k < m → rest ≤ m) → cond (ltb n (256 ^ k)) k rest ≤ m
least_or n k rest m le fits others = by_cases (λ (w : ℕ). w ≤ m) (ltb n (256 ^ k)) k rest (λ _. le)
    (λ no_less. others (more_than n k m no_less fits))

pub width_least : (n m : ℕ) → 1 ≤ m → n < 256 ^ m → width n ≤ m
unfolding width
width_least n m some fits =
    least_or n 1 _ m some fits (λ l1. least_or n 2 _ m (omega arith) fits
    (λ l2. least_or n 3 _ m (omega arith) fits (λ l3. least_or n 4 _ m (omega arith) fits
    (λ l4. least_or n 5 _ m (omega arith) fits
    (λ l5. least_or n 6 _ m (omega arith) fits
    (λ l6. least_or n 7 8 m (omega arith) fits (λ l7. omega arith)))))))

-- ---- the bytes that are put

drop_high : (j k n : ℕ) → drop j (bytes_high_first (j + k) n) ≡ bytes_high_first k n
drop_high zero k n =
    let e : 0 + k ≡ k = omega arith in
    rw e refl
drop_high (suc j) k n =
    let e : suc j + k ≡ suc (j + k) = omega arith in
    rw e (drop_high j k n)

pub low_bytes : (k n : ℕ) → k ≤ 8 → drop (8 - k) (to_be_bytes w64 n) ≡ be_bytes k n
unfolding be_bytes
low_bytes k n le =
    let e : 8 ≡ (8 - k) + k = omega arith in
    ap (λ (m : ℕ). drop (8 - k) (bytes_high_first m n)) e ∙ drop_high (8 - k) k n

-- the last k of the eight bytes of a number
pub low_part : (k n : ℕ) → k ≤ 8 → take (8 - (8 - k)) (drop (8 - k) (to_be_bytes w64 n)) ≡ be_bytes k n
low_part k n le =
    let len : length (be_bytes k n) ≡ k = length-be_bytes k n in
    ap (take (8 - (8 - k))) (low_bytes k n le) ∙ take_all (8 - (8 - k)) (be_bytes k n) (omega arith)

pub length_put : (old new : List ℕ) (n w : ℕ) → 128 ≤ n → w ≡ width n → new ≡ (old ++ (128 + w) ∷ [])
    ++ take (8 - (8 - w)) (drop (8 - w) (to_be_bytes w64 n)) → new ≡ old ++ length_bytes n
unfolding length_bytes
length_put old new n w high is_width is_new =
    let test : ltb n 128 ≡ false = le-ltb _ _ high in
    let part : new ≡ (old ++ (128 + width n) ∷ []) ++ be_bytes (width n) n =
    is_new ∙ ap (λ (k : ℕ). (old ++ (128 + k) ∷ []) ++ take (8 - (8 - k)) (drop (8 - k) (to_be_bytes w64 n))) is_width
    ∙ ap (λ (t : List ℕ). (old ++ (128 + width n) ∷ []) ++ t) (low_part (width n) n (width_within n).1) in
    rw test (part ∙ append_assoc old ((128 + width n) ∷ []) (be_bytes (width n) n))

pub number_put : (bytes : List ℕ) (n w : ℕ) → w ≡ width (2 * n) → bytes ≡ to_be_bytes w64 n
    → take (8 - (8 - w)) (drop (8 - w) bytes) ≡ number_bytes n
unfolding number_bytes
number_put bytes n w is_width are_bytes =
    ap (λ (bs : List ℕ). take (8 - (8 - w)) (drop (8 - w) bs)) are_bytes
    ∙ ap (λ (k : ℕ). take (8 - (8 - k)) (drop (8 - k) (to_be_bytes w64 n))) is_width
    ∙ low_part (width (2 * n)) n (width_within (2 * n)).1

-- ---- how many bytes are put

pub length_long : (tag n w : ℕ) → 128 ≤ n → w ≡ width n → 2 + w ≡ length (header tag n)
unfolding header length_bytes
length_long tag n w high is_width =
    let test : ltb n 128 ≡ false = le-ltb _ _ high in
    let digits : length (be_bytes (width n) n) ≡ width n = length-be_bytes (width n) n in
    rw test (omega arith)

pub number_width : (n : ℕ) → n < 2 ^ 32 → width (2 * n) ≤ 5
number_width n low = width_least (2 * n) 5 (omega arith) (omega arith)

pub length_number : (tag n w : ℕ) → n < 2 ^ 32 → w ≡ width (2 * n) → 2 + w ≡ length (number_element tag n)
unfolding number_element element_bytes number_bytes header length_bytes
length_number tag n w low is_width =
    let digits : length (be_bytes (width (2 * n)) n) ≡ width (2 * n) = length-be_bytes (width (2 * n)) n in
    let few : width (2 * n) ≤ 5 = number_width n low in
    let test : ltb (length (be_bytes (width (2 * n)) n)) 128 ≡ true = lt-ltb _ _ (omega arith) in
    rw test (omega arith)

-- ---- what is put is encoded so

length_spelled : (n : ℕ) → n < 2 ^ 32 → SpellsLength n (length_bytes n)
unfolding length_bytes
length_spelled n low =
    elim (cases_Bool (ltb n 128)) [
      | inl short ↦ let below : n < 128 = ltb-true _ _ short in rw short (low, inl (below, (omega arith, refl)))
      | inr long ↦
          let within = width_within n in
          rw long (
            low,
            inr (record {
              count = width n;
              some = omega (arith, within.0);
              few = omega (arith, within.1);
              text_is = record {
                front = (128 + width n) ∷ [];
                behind = be_bytes (width n) n;
                parts = refl;
                spelled
                    = (omega (arith, within.1), refl);
                follows = (fits_width n (omega arith), refl);
              };
            }),
          )
    ]

pub element_spelled : (tag : ℕ) (body : List ℕ) → tag < 256 → tag % 32 < 31 → length body < 2 ^ 32
    → SpellsElement (record { tag = tag; body = body }) (element_bytes tag body)
unfolding element_bytes header
element_spelled tag body byte number low = record {
  number = number;
  text_is = record {
    front = tag ∷ [];
    behind = length_bytes (length body) ++ body;
    parts = refl;
    spelled = (byte, refl);
    follows = record {
      front = length_bytes (length body);
      behind = body;
      parts = refl;
      spelled
          = length_spelled (length body) low;
      follows = (refl, refl);
    };
  };
}

-- no encoding of a length has fewer bytes
pub length_shortest : (n : ℕ) (text : List ℕ) → SpellsLength n text → length (length_bytes n) ≤ length text
unfolding length_bytes
length_shortest n text (low, inl s) =
    let test : ltb n 128 ≡ true = lt-ltb _ _ s.0 in
    rw (test, s.1.1) (omega arith)
length_shortest n text (low, inr s) =
    let t = s.text_is in
    let long : length text ≡ 1 + s.count = ap length t.parts ∙ length-append t.front t.behind
    ∙ rw (t.spelled.1, t.follows.1, length-be_bytes s.count n) refl in
    let some : 0 < s.count = s.some in
    let least : width n ≤ s.count = width_least n s.count (omega arith) t.follows.0 in
    elim (cases_Bool (ltb n 128)) [
      | inl short ↦ rw short (omega arith)
      | inr wide ↦ rw wide (omega (arith, length-be_bytes (width n) n))
    ]
