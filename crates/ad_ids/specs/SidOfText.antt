-- The identifier that a text encodes, as a function of the text: part by part, as they stand between hyphens.
use Rattle.std.specs.Prelude.{ℕ, ◌+◌, ◌*◌, ◌^◌, nat_lt, nat_le, Bool, ◌==◌, ◌&&◌, ◌||◌, if◌then◌else◌, List, []}
use Rattle.std.specs.Prelude.{◌∷◌, length, take, drop, codes, decimal, Option, Some, None, option_map}
use Rattle.std.specs.Prelude.{option_and_then}
use Rattle.std.specs.List.{list_all, slice_split}
use Rattle.std.specs.Str.{bytes_eq}
use Rattle.std.specs.Str.Parse.{digits_value}
use Rattle.uuid.specs.Text.{is_hex_digit, value_of}
use Rattle.ad_ids.specs.SidValue.{SidValue}

-- the value, where the test passes
abbrev pub checked : {A : Type 0} → Bool → A → Option A
checked test x = if test then Some x else None

-- the number, where it is below 2^32 and this is its text in decimal
abbrev pub number_if : List ℕ → ℕ → Option ℕ
number_if text n = checked (bytes_eq text (decimal n) && nat_lt n (2 ^ 32)) n

unfoldable pub number_of : List ℕ → Option ℕ
number_of text = number_if text (digits_value 10 text)

-- the number that hexadecimal digits write, after those of n
abbrev pub hex_number : ℕ → List ℕ → ℕ
hex_number n [] = n
hex_number n (b ∷ digits) = hex_number (n * 16 + value_of b) digits

-- the number of 12 hexadecimal digits that is no smaller than 2^32
abbrev pub large_if : List ℕ → ℕ → Option ℕ
large_if digits n = checked ((length digits == 12) && list_all is_hex_digit digits && nat_le (2 ^ 32) n) n

unfoldable pub large_of : List ℕ → Option ℕ
large_of digits = large_if digits (hex_number 0 digits)

-- in hexadecimal after 0x, else in decimal
abbrev pub authority_of : List ℕ → Option ℕ
authority_of text = if bytes_eq (take 2 text) (codes "0x") then large_of (drop 2 text) else number_of text

abbrev pub numbers_of : List (List ℕ) → Option (List ℕ)
numbers_of [] = Some []
numbers_of (text ∷ texts) = option_and_then (λ n. option_map (λ ns. n ∷ ns) (numbers_of texts)) (number_of text)

-- 1 to 15 sub-authorities
abbrev pub with_numbers : ℕ → List ℕ → Option SidValue
with_numbers authority numbers = checked (nat_le 1 (length numbers) && nat_le (length numbers) 15)
    (record { authority = authority; sub_authorities = numbers })

-- the authority, and then the sub-authorities
abbrev pub sid_of_parts : List (List ℕ) → Option SidValue
sid_of_parts [] = None
sid_of_parts (authority ∷ others) = option_and_then (λ n. option_and_then (with_numbers n) (numbers_of others))
    (authority_of authority)

-- with S in either case
abbrev pub begins_sid : List ℕ → Bool
begins_sid text = bytes_eq text (codes "S-1-") || bytes_eq text (codes "s-1-")

abbrev pub parts_between : List ℕ → List (List ℕ)
parts_between text = slice_split (λ b. b == 45) text

-- the identifier that the whole text encodes; none where it encodes none
unfoldable pub sid_of_text : List ℕ → Option SidValue
sid_of_text text = if begins_sid (take 4 text) then sid_of_parts (parts_between (drop 4 text)) else None
