-- The one encoding that is written: no byte more than the length and the number need.
use Rattle.std.specs.Prelude.{ℕ, ◌+◌, ◌*◌, ◌^◌, List, [], ◌∷◌, ◌++◌, length, nat_lt, if◌then◌else◌}
use Rattle.ad_bytes.specs.Numbers.{be_bytes}

-- how many bytes a number below 2^64 needs
unfoldable pub width : ℕ → ℕ
width n =
    if nat_lt n (256 ^ 1) then 1
    else if nat_lt n (256 ^ 2) then 2
    else if nat_lt n (256 ^ 3) then 3
    else if nat_lt n (256 ^ 4) then 4
    else if nat_lt n (256 ^ 5) then 5
    else if nat_lt n (256 ^ 6) then 6
    else if nat_lt n (256 ^ 7) then 7
    else 8

-- a length below 128 is a byte, any other is after the number of its bytes
unfoldable pub length_bytes : ℕ → List ℕ
length_bytes n = if nat_lt n 128 then n ∷ [] else (128 + width n) ∷ be_bytes (width n) n

-- what stands before a body of n bytes
unfoldable pub header : ℕ → ℕ → List ℕ
header tag n = tag ∷ length_bytes n

unfoldable pub element_bytes : ℕ → List ℕ → List ℕ
element_bytes tag body = header tag (length body) ++ body

-- A number, which isn't negative, as an integer: so many bytes that the first bit is clear.
unfoldable pub number_bytes : ℕ → List ℕ
number_bytes n = be_bytes (width (2 * n)) n

unfoldable pub number_element : ℕ → ℕ → List ℕ
number_element tag n = element_bytes tag (number_bytes n)
