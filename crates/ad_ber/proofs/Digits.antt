-- A number in bytes, the most significant first, as it is read byte by byte.
use Rattle.std.proofs.Common.{◌≡◌, ℕ, zero, suc, ◌+◌, ◌-◌, ◌*◌, ◌^◌, ◌≤◌, ◌<◌, true, false, inl, inr, ltb, List, []}
use Rattle.std.proofs.Common.{◌∷◌, length, take, drop, get_or, Ok, Err, refl, sym, ap, subst, ◌∙◌, arith}
use Rattle.std.proofs.lemmas.Bool.{cases_Bool, ltb-false, lt-ltb, le-ltb}
use Rattle.std.proofs.lemmas.List.{length-take}
use Rattle.std.proofs.Math.Nat.{pow-suc, mul_assoc}
use Rattle.byteorder.specs.Endian.{big_from, big_number}
use Rattle.byteorder.specs.Numbers.{big_from-take}
use Rattle.ad_bytes.specs.Reading.{Reading}
use Rattle.ad_bytes.specs.Numbers.{short, be_at, part_at}
use Rattle.ad_bytes.proofs.Steps.{from_guard}
use Rattle.ad_ber.specs.declared.fault.BerFault.TheVariants as fault
use Rattle.ad_ber.specs.Reading.{long_at}

-- one byte more
snoc : (i n : ℕ) (xs : List ℕ) → big_from i (suc n) xs ≡ big_from i n xs * 256 + get_or xs (i + n) 0
snoc i zero xs =
    let e : i + 0 ≡ i = omega arith in
    rw e (omega arith)
snoc i (suc n) xs =
    let e : i + suc n ≡ suc i + n = omega arith in
    let x = get_or xs i 0 in
    let p : x * 256 ^ suc n ≡ x * 256 ^ n * 256 = ap (λ (m : ℕ). x * m) (pow-suc 256 n)
    ∙ sym (mul_assoc x (256 ^ n) 256) in
    let ih : big_from (suc i) (suc n) xs ≡ big_from (suc i) n xs * 256 + get_or xs (suc i + n) 0 = snoc (suc i) n xs in
    rw e (omega (arith, p, ih))

pub one_more : (n : ℕ) (xs : List ℕ) → big_number (n + 1) xs ≡ big_number n xs * 256 + get_or xs n 0
one_more n xs =
    let e : n + 1 ≡ suc n = omega arith in
    let f : 0 + n ≡ n = omega arith in
    ap (λ (m : ℕ). big_number m xs) e ∙ snoc 0 n xs ∙ ap (λ (m : ℕ). big_number n xs * 256 + get_or xs m 0) f

grows : (d n : ℕ) (xs : List ℕ) → big_number n xs ≤ big_number (n + d) xs
grows zero n xs =
    let e : n + 0 ≡ n = omega arith in
    rw e (omega arith)
grows (suc d) n xs =
    let e : n + suc d ≡ (n + d) + 1 = omega arith in
    rw e (omega (arith, one_more (n + d) xs, grows d n xs))

-- the number doesn't fall with more bytes
pub no_less : (n m : ℕ) (xs : List ℕ) → n ≤ m → big_number n xs ≤ big_number m xs
no_less n m xs le =
    let e : m ≡ n + (m - n) = omega arith in
    rw e (grows (m - n) n xs)

-- the number in a part is the one at the start
pub part_number : (n : ℕ) (bytes digits rest : List ℕ) → part_at n bytes ≡ Ok (digits, rest) → be_at n bytes
    ≡ Ok (big_number (length digits) digits, rest)
unfolding part_at be_at
part_number n bytes digits rest e =
    from_guard (ltb (length bytes) n) short (take n bytes, drop n bytes) (digits, rest) e
    (λ (long : ltb (length bytes) n ≡ false) (same : (take n bytes, drop n bytes) ≡ (digits, rest)).
    let front : take n bytes ≡ digits = ap (λ (p : List ℕ × List ℕ). p.0) same in
    let behind : drop n bytes ≡ rest = ap (λ (p : List ℕ × List ℕ). p.1) same in
    let le : n ≤ length bytes = ltb-false _ _ long in
    let len : length digits ≡ n = sym (ap length front) ∙ omega (arith, length-take n bytes) in
    let number : big_number (length digits) digits ≡ big_number n bytes = ap (λ (m : ℕ). big_number m digits) len
    ∙ ap (big_number n) (sym front) ∙ big_from-take 0 n n bytes (omega arith) in
    rw (long, number, behind) refl)

-- a part that is cut short has no number
pub part_short : (n : ℕ) (bytes : List ℕ) → part_at n bytes ≡ Err short → be_at n bytes ≡ Err short
unfolding part_at be_at
part_short n bytes e = elim (cases_Bool (ltb (length bytes) n)) [
  | inl yes_short ↦ rw yes_short refl
  | inr no_short ↦ let same : part_at n bytes ≡ Ok (take n bytes, drop n bytes) = rw no_short refl
      in absurd (let clash : Ok (take n bytes, drop n bytes) ≡ Err short = sym same ∙ e in cc)
]

-- ---- a length in several bytes

pub long_short : (n : ℕ) (bytes : List ℕ) → part_at n bytes ≡ Err short → long_at n bytes ≡ Err fault.Short
unfolding long_at
long_short n bytes e = rw (part_short n bytes e) refl

pub long_read : (n : ℕ) (bytes digits rest : List ℕ) (number : ℕ) → part_at n bytes ≡ Ok (digits, rest) → number
    ≡ big_number (length digits) digits → number < 2 ^ 32 → long_at n bytes ≡ Ok (number, rest)
unfolding long_at
long_read n bytes digits rest number e is low =
    let test : ltb (big_number (length digits) digits) (2 ^ 32) ≡ true
    = lt-ltb _ _ (subst (λ (m : ℕ). m < 2 ^ 32) is low) in
    rw (part_number n bytes digits rest e, test, is) refl

pub long_above : (n : ℕ) (bytes digits rest : List ℕ) → part_at n bytes ≡ Ok (digits, rest) → 2 ^ 32
    ≤ big_number (length digits) digits → long_at n bytes ≡ Err fault.Long
unfolding long_at
long_above n bytes digits rest e high =
    let test : ltb (big_number (length digits) digits) (2 ^ 32) ≡ false = le-ltb _ _ high in
    rw (part_number n bytes digits rest e, test) refl
