-- Which texts encode a security identifier, and where a text that encodes none goes wrong.
use Rattle.std.specs.Prelude.{◌≡◌, ◌⊎◌, ℕ, zero, suc, ◌/◌, ◌%◌, ◌^◌, ◌<◌, ◌≤◌, true, List, [], ◌∷◌, ◌++◌, codes}
use Rattle.std.specs.Prelude.{decimal}
use Rattle.uuid.specs.Text.{is_hex_digit, value_of}
use Rattle.ad_bytes.specs.Prefix.{BeginsOne, IsFaultOffset}
use Rattle.ad_ids.specs.SidValue.{SidValue}
use Rattle.ad_ids.specs.Sid.{IsSid}
use Rattle.ad_ids.specs.SidText.{others_text}

-- digits of n with one more at the end, which is its remainder by 16
pub record SpellsDigit (Front : ℕ → List ℕ → Type 0) (n : ℕ) (text : List ℕ) : Type 0 where
  pub front : List ℕ
  pub last : ℕ
  pub digit : is_hex_digit last ≡ true
  pub remainder : value_of last ≡ n % 16
  pub parts : text ≡ front ++ last ∷ []
  pub before : Front (n / 16) front

-- k hexadecimal digits of n, in either case
abbrev pub SpellsHex : ℕ → ℕ → List ℕ → Type 0
SpellsHex zero n text = (n ≡ 0) × (text ≡ [])
SpellsHex (suc k) n text = SpellsDigit (SpellsHex k) n text

-- 0x, and 12 digits of a number that is no smaller than 2^32
pub record SpellsLarge (n : ℕ) (text : List ℕ) : Type 0 where
  pub large : 2 ^ 32 ≤ n
  pub digits : List ℕ
  pub parts : text ≡ codes "0x" ++ digits
  pub spelled : SpellsHex 12 n digits

-- an authority is encoded in decimal below 2^32, else in hexadecimal
abbrev pub SpellsAuthority : ℕ → List ℕ → Type 0
SpellsAuthority n text = ((n < 2 ^ 32) × (text ≡ decimal n)) ⊎ SpellsLarge n text

-- S or s, and -1-
pub record IsFront (text : List ℕ) : Type 0 where
  pub letter : ℕ
  pub is_s : (letter ≡ 83) ⊎ (letter ≡ 115)
  pub parts : text ≡ letter ∷ codes "-1-"

-- the beginning, the authority, and each sub-authority after a hyphen
pub record SpellsSidText (s : SidValue) (text : List ℕ) : Type 0 where
  pub is_sid : IsSid s
  pub front : List ℕ
  pub is_front : IsFront front
  pub authority : List ℕ
  pub spelled : SpellsAuthority s.authority authority
  pub parts : text ≡ front ++ authority ++ others_text s.sub_authorities

-- some identifier's text begins so
abbrev pub Begins : List ℕ → Type 0
Begins text = BeginsOne SpellsSidText text

-- the length of the longest prefix of the text with which some identifier's text begins
abbrev pub IsPlace : ℕ → List ℕ → Type 0
IsPlace offset text = IsFaultOffset SpellsSidText offset text
