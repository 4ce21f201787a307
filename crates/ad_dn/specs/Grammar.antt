-- Which texts encode a distinguished name (RFC 4514 3), and where a text that encodes none goes wrong.
use Rattle.std.specs.Prelude.{◌≡◌, ℕ, ◌+◌, ◌*◌, Bool, true, false, not, ◌==◌, ◌&&◌, ◌||◌, List, [], ◌∷◌, ◌++◌, map}
use Rattle.std.specs.Prelude.{replicate, IsTrue}
use Rattle.std.specs.List.{AllByRecursion, flat_map}
use Rattle.std.specs.Str.{str_to_ascii_uppercase}
use Rattle.uuid.specs.Text.{is_hex_digit, value_of}
use Rattle.ad_bytes.specs.Prefix.{IsFaultOffset}
use Rattle.ad_dn.specs.declared.rdn.Rdn.{Rdn}
use Rattle.ad_dn.specs.declared.rdn.Dn.{Dn}
use Rattle.ad_dn.specs.declared.fault.DnFault.{DnFault}
use Rattle.ad_dn.specs.declared.fault.DnFault.TheVariants.{Bad, Memory}
use Rattle.ad_dn.specs.AttributeType.{IsType}
use Rattle.ad_dn.specs.Value.{IsValue}

-- one of " + , ; < > \
abbrev pub is_reserved : ℕ → Bool
is_reserved b = (b == 34) || (b == 43) || (b == 44) || (b == 59) || (b == 60) || (b == 62) || (b == 92)

-- What may stand after \: a reserved character, a blank, # or =.
abbrev pub is_special : ℕ → Bool
is_special b = is_reserved b || (b == 32) || (b == 35) || (b == 61)

-- A byte of a value, as it stands in a text: by itself, after \, or as two hexadecimal digits after \.
pub data Piece : Type 0 where
  plain : ℕ → Piece
  marked : ℕ → Piece
  pair : ℕ → ℕ → Piece

abbrev pub piece_text : Piece → List ℕ
piece_text (plain b) = b ∷ []
piece_text (marked b) = 92 ∷ b ∷ []
piece_text (pair high low) = 92 ∷ high ∷ low ∷ []

abbrev pub piece_byte : Piece → ℕ
piece_byte (plain b) = b
piece_byte (marked b) = b
piece_byte (pair high low) = 16 * value_of high + value_of low

-- neither a reserved character nor NUL stands by itself
abbrev pub is_piece : Piece → Bool
is_piece (plain b) = not (is_reserved b) && not (b == 0)
is_piece (marked b) = is_special b
is_piece (pair high low) = is_hex_digit high && is_hex_digit low

abbrev pub IsPiece : Piece → Type 0
IsPiece p = IsTrue (is_piece p)

-- a value begins neither with a blank nor with # by itself
abbrev pub may_be_first : Piece → Bool
may_be_first (plain b) = not (b == 32) && not (b == 35)
may_be_first _ = true

-- and ends with no blank by itself
abbrev pub may_be_last : Piece → Bool
may_be_last (plain b) = not (b == 32)
may_be_last _ = true

abbrev pub BeginsWell : List Piece → Type 0
BeginsWell [] = ⊥
BeginsWell (p ∷ _) = IsTrue (may_be_first p)

abbrev pub EndsWell : List Piece → Type 0
EndsWell [] = ⊥
EndsWell (p ∷ []) = IsTrue (may_be_last p)
EndsWell (_ ∷ p ∷ pieces) = EndsWell (p ∷ pieces)

pub record SpellsValue (value text : List ℕ) : Type 0 where
  pub is_value : IsValue value
  pub pieces : List Piece
  pub are_pieces : AllByRecursion IsPiece pieces
  pub begins : BeginsWell pieces
  pub ends : EndsWell pieces
  pub bytes : value ≡ map piece_byte pieces
  pub parts : text ≡ flat_map piece_text pieces

-- a type in either case
pub record SpellsAttributeType (kind text : List ℕ) : Type 0 where
  pub is_type : IsType text
  pub upper : kind ≡ str_to_ascii_uppercase text

abbrev pub blanks : ℕ → List ℕ
blanks n = replicate n 32

-- a type, = with any blanks round it, and a value
pub record SpellsRdn (rdn : Rdn) (text : List ℕ) : Type 0 where
  pub kind : List ℕ
  pub spells_type : SpellsAttributeType rdn.kind kind
  pub before : ℕ
  pub after : ℕ
  pub value : List ℕ
  pub spells_value : SpellsValue rdn.value value
  pub parts : text ≡ kind ++ blanks before ++ 61 ∷ blanks after ++ value

-- one text, and then another
pub record IsJoined (First Rest : List ℕ → Type 0) (text : List ℕ) : Type 0 where
  pub first : List ℕ
  pub is_first : First first
  pub rest : List ℕ
  pub is_rest : Rest rest
  pub parts : text ≡ first ++ rest

-- a comma with any blanks round it, and then such a text
pub record IsAfterComma (Text : List ℕ → Type 0) (text : List ℕ) : Type 0 where
  pub before : ℕ
  pub after : ℕ
  pub others : List ℕ
  pub is_others : Text others
  pub parts : text ≡ blanks before ++ 44 ∷ blanks after ++ others

-- each after a comma
abbrev pub SpellsOthers : List Rdn → List ℕ → Type 0
SpellsOthers [] text = text ≡ []
SpellsOthers (rdn ∷ rdns) text = IsAfterComma (IsJoined (SpellsRdn rdn) (SpellsOthers rdns)) text

-- the parts of the name, from the left, parted by commas; nothing for the name without parts
abbrev pub SpellsRdns : List Rdn → List ℕ → Type 0
SpellsRdns [] text = text ≡ []
SpellsRdns (rdn ∷ rdns) text = IsJoined (SpellsRdn rdn) (SpellsOthers rdns) text

abbrev pub SpellsDn : Dn → List ℕ → Type 0
SpellsDn dn text = SpellsRdns dn.rdns text

-- what a fault says of the text: its place is the length of the longest prefix with which some name's text begins;
-- where memory ran out, nothing
abbrev pub IsFault : DnFault → List ℕ → Type 0
IsFault (Bad place) text = IsFaultOffset SpellsDn place text
IsFault Memory text = Unit {0}

abbrev pub is_memory : DnFault → Bool
is_memory Memory = true
is_memory _ = false
