-- The text of a security identifier.
pub use Rattle.ad_bytes.specs.Hex.{hex_digit}
use Rattle.std.specs.Prelude.{ℕ, zero, suc, ◌/◌, ◌%◌, ◌^◌, nat_lt, if◌then◌else◌, List, [], ◌∷◌, ◌++◌, codes, decimal}
use Rattle.std.specs.List.{flat_map}
use Rattle.ad_ids.specs.SidValue.{SidValue}

-- the last k hexadecimal digits of n
unfoldable pub hex_digits : ℕ → ℕ → List ℕ
hex_digits zero n = []
hex_digits (suc k) n = hex_digits k (n / 16) ++ hex_digit (n % 16) ∷ []

-- in decimal below 2^32, else as 12 hexadecimal digits
abbrev pub authority_text : ℕ → List ℕ
authority_text n = if nat_lt n (2 ^ 32) then decimal n else codes "0x" ++ hex_digits 12 n

-- a hyphen and the number in decimal, of each
abbrev pub others_text : List ℕ → List ℕ
others_text others = flat_map (λ n. codes "-" ++ decimal n) others

-- the one text that is written
abbrev pub sid_text : SidValue → List ℕ
sid_text s = codes "S-1-" ++ authority_text s.authority ++ others_text s.sub_authorities
