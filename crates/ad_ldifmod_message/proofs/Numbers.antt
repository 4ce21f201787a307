-- A number that was put is read back as an integer.
use Rattle.std.proofs.Common.{◌≡◌, ℕ, zero, suc, ◌+◌, ◌-◌, ◌*◌, ◌^◌, ◌<◌, ◌≤◌, ◌&&◌, Bool, true, ltb, List, [], ◌++◌}
use Rattle.std.proofs.Common.{length, Result, Ok, Err, pos, refl, sym, ap, ◌∙◌, arith}
use Rattle.std.specs.Prelude.{if◌then◌else◌}
use Rattle.std.proofs.lemmas.Bool.{lt-ltb, le-leb}
use Rattle.std.proofs.lemmas.List.{append-nil}
use Rattle.byteorder.specs.Endian.{big_number, twos_complement}
use Rattle.byteorder.specs.Numbers.{big_number-reads_back}
use Rattle.ad_bytes.specs.Numbers.{be_bytes}
use Rattle.ad_bytes.proofs.Codec.{length-be_bytes}
use Rattle.ad_ber.specs.Integer.{integer_of}
use Rattle.ad_ber.specs.Writing.{width, number_bytes}
use Rattle.ad_ber.proofs.Shortest.{fits_width, width_within, number_width}

-- of one to five bytes of which the first bit is clear
twos : (w n : ℕ) → 1 ≤ w → w ≤ 5 → 2 * n < 256 ^ w → n < 2 ^ 32 → twos_complement w n ≡ pos n
twos zero n some few fits low = absurd (omega (arith, some))
twos (suc zero) n some few fits low = let test : ltb n (2 ^ 7) ≡ true = lt-ltb n (2 ^ 7) (omega (arith, fits))
    in rw test refl
twos (suc (suc zero)) n some few fits low = let test : ltb n (2 ^ 15) ≡ true = lt-ltb n (2 ^ 15) (omega (arith, fits))
    in rw test refl
twos (suc (suc (suc zero))) n some few fits low = let test : ltb n (2 ^ 23) ≡ true
    = lt-ltb n (2 ^ 23) (omega (arith, fits)) in rw test refl
twos (suc (suc (suc (suc zero)))) n some few fits low = let test : ltb n (2 ^ 31) ≡ true
    = lt-ltb n (2 ^ 31) (omega (arith, fits)) in rw test refl
twos (suc (suc (suc (suc (suc zero))))) n some few fits low = let test : ltb n (2 ^ 39) ≡ true
    = lt-ltb n (2 ^ 39) (omega (arith, low)) in rw test refl
twos (suc (suc (suc (suc (suc (suc w)))))) n some few fits low = absurd (omega (arith, few))

again : (w n : ℕ) → n < 256 ^ w → big_number w (be_bytes w n) ≡ n
unfolding be_bytes
again w n fits = ap (big_number w) (sym (append-nil (be_bytes w n))) ∙ big_number-reads_back w n [] fits

integer_by : (body : List ℕ) (w n : ℕ) → length body ≡ w → 1 ≤ w → w ≤ 8 → big_number w body ≡ n → twos_complement w n
    ≡ pos n → integer_of body ≡ Ok (pos n)
integer_by body w n len some few number twos_is =
    let low : ltb 0 w ≡ true = lt-ltb 0 w (omega (arith, some)) in
    let high : _ ≡ true = le-leb w 8 few in
    rw (len, low, high, number, twos_is) refl

pub integer_again : (n : ℕ) → n < 2 ^ 32 → integer_of (number_bytes n) ≡ Ok (pos n)
unfolding number_bytes
integer_again n low =
    let w = width (2 * n) in
    let within = width_within (2 * n) in
    let few : w ≤ 5 = number_width n low in
    let fits : 2 * n < 256 ^ w = fits_width (2 * n) (omega (arith, low)) in
    integer_by (be_bytes w n) w n (length-be_bytes w n) within.0 within.1 (again w n (omega (arith, fits)))
    (twos w n within.0 few fits low)
