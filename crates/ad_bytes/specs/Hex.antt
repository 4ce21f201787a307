-- Hexadecimal digits as they are written. Which bytes are read as one, in either case, and what each is worth, say
-- `is_hex_digit` and `value_of` of the library `uuid`.
use Rattle.std.specs.Prelude.{ℕ, slice_index, codes}

-- the hexadecimal digit of a number below 16, in lower case
abbrev pub hex_digit : ℕ → ℕ
hex_digit d = slice_index (codes "0123456789abcdef") d
