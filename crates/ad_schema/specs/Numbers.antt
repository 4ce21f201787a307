-- Texts of numbers and truth values.
use Rattle.std.specs.Prelude.{ℕ, ◌+◌, ◌-◌, ◌*◌, ◌^◌, nat_lt, Bool, true, false, ◌==◌, List, [], ◌∷◌, codes, Option}
use Rattle.std.specs.Prelude.{Some, None, if◌then◌else◌}
use Rattle.std.specs.Option.{option_and_then}
use Rattle.std.specs.Char.{is_ascii_digit}
pub use Rattle.ad_schema_classes.specs.Names.{same_name}

-- ---- numbers

-- the number that digits encode after those of n
unfoldable pub digits_behind : ℕ → List ℕ → Option ℕ
digits_behind n [] = Some n
digits_behind n (b ∷ text) = if is_ascii_digit b then digits_behind (n * 10 + (b - 48)) text else None

-- A number is encoded by decimal digits without sign or leading zero.
unfoldable pub number : List ℕ → Option ℕ
number [] = None
number (b ∷ []) = digits_behind 0 (b ∷ [])
number (b ∷ c ∷ text) = if b == 48 then None else digits_behind 0 (b ∷ c ∷ text)

-- the number, where it is below the limit
abbrev pub if_below : ℕ → ℕ → Option ℕ
if_below limit n = if nat_lt n limit then Some n else None

unfoldable pub number_below : ℕ → List ℕ → Option ℕ
number_below limit text = option_and_then (if_below limit) (number text)

-- the 32 bits of minus n, for n from 1 to 2^31
abbrev pub bits_of_minus : ℕ → Option ℕ
bits_of_minus n = if n == 0 then None else Some (2 ^ 32 - n)

-- The 32 bits of a signed number of 32 bits. A negative one has `-` (45) before its digits, and isn't `-0`.
unfoldable pub signed_bits : List ℕ → Option ℕ
signed_bits [] = None
signed_bits (b ∷ text) =
    if b == 45 then option_and_then bits_of_minus (number_below (2 ^ 31 + 1) text) else number_below (2 ^ 31) (b ∷ text)

-- ---- truth values

-- TRUE or FALSE, in either case
unfoldable pub truth_of : List ℕ → Option Bool
truth_of text = if same_name text (codes "TRUE") then Some true
    else (if same_name text (codes "FALSE") then Some false else None)
