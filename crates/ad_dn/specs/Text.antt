-- The one text that is written of a name (RFC 4514 2): one line, which a terminal shows as it stands.
use Rattle.std.specs.Prelude.{ℕ, zero, suc, ◌-◌, ◌/◌, ◌%◌, nat_le, nat_lt, Bool, not, ◌==◌, ◌&&◌, ◌||◌}
use Rattle.std.specs.Prelude.{if◌then◌else◌, List, [], ◌∷◌, ◌++◌, slice_index}
use Rattle.std.specs.List.{flat_map, list_all}
use Rattle.uuid.specs.Text.{hex_digit, upper}
use Rattle.ad_dn.specs.declared.rdn.Rdn.{Rdn}
use Rattle.ad_dn.specs.declared.rdn.Dn.{Dn}
use Rattle.ad_dn.specs.Grammar.{Piece, plain, marked, pair, piece_text, is_reserved}

-- ---- characters that are written in digits

abbrev pub is_between : ℕ → ℕ → ℕ → Bool
is_between low high b = nat_le low b && nat_le b high

-- a control of ASCII: U+0000 to U+001F, U+007F
abbrev pub is_control : ℕ → Bool
is_control a = nat_lt a 32 || (a == 127)

-- the other controls, U+0080 to U+009F; and a mark of direction, U+061C
abbrev pub is_hidden_two : ℕ → ℕ → Bool
is_hidden_two a b = ((a == 194) && is_between 128 159 b) || ((a == 216) && (b == 156))

-- The others in three bytes: marks of direction, U+200E, U+200F, U+202A to U+202E and U+2066 to U+2069; the separators
-- of lines and of paragraphs, U+2028 and U+2029; and the byte order mark, U+FEFF.
abbrev pub is_hidden_three : ℕ → ℕ → ℕ → Bool
is_hidden_three a b c =
    ((a == 226) && (b == 128) && (is_between 142 143 c || is_between 168 174 c))
    || ((a == 226) && (b == 129) && is_between 166 169 c)
    || ((a == 239) && (b == 187) && (c == 191))

abbrev pub hidden_by : ℕ → ℕ → ℕ → ℕ
hidden_by a b c = if is_control a then 1 else if is_hidden_two a b then 2 else if is_hidden_three a b c then 3 else 0

-- how many bytes such a character has that stands at the start; 0 where none does
abbrev pub hidden_size : List ℕ → ℕ
hidden_size bytes = hidden_by (slice_index bytes 0) (slice_index bytes 1) (slice_index bytes 2)

-- ---- pieces

-- two hexadecimal digits in upper case
abbrev pub digits_of : ℕ → Piece
digits_of b = pair (hex_digit upper (b / 16)) (hex_digit upper (b % 16))

-- \ before a reserved character
abbrev pub piece_of : ℕ → Piece
piece_of b = if is_reserved b then marked b else plain b

abbrev pub last_piece : ℕ → Piece
last_piece b = if b == 32 then marked b else piece_of b

-- A byte before these: in digits where so many bytes are to be; else the last one, or one before it.
abbrev pub piece_at : ℕ → ℕ → List ℕ → Piece
piece_at (suc _) b _ = digits_of b
piece_at zero b [] = last_piece b
piece_at zero b (_ ∷ _) = piece_of b

-- how many bytes from here on are written in digits: those that are left of a character, or those of the next
abbrev pub in_digits : ℕ → List ℕ → ℕ
in_digits zero bytes = hidden_size bytes
in_digits (suc n) _ = suc n

-- the bytes of a value, of which the first so many are left of a character that is written in digits
abbrev pub pieces_after : ℕ → List ℕ → List Piece
pieces_after n [] = []
pieces_after n (b ∷ bytes) = piece_at (in_digits n (b ∷ bytes)) b bytes
    ∷ pieces_after (in_digits n (b ∷ bytes) - 1) bytes

-- also \ before a first blank and a first #
abbrev pub pieces_of : List ℕ → List Piece
pieces_of [] = []
pieces_of (b ∷ bytes) = if (b == 32) || (b == 35) then marked b ∷ pieces_after 0 bytes else pieces_after 0 (b ∷ bytes)

unfoldable pub value_text : List ℕ → List ℕ
value_text value = flat_map piece_text (pieces_of value)

abbrev pub rdn_text : Rdn → List ℕ
rdn_text rdn = rdn.kind ++ 61 ∷ value_text rdn.value

abbrev pub others_text : List Rdn → List ℕ
others_text rdns = flat_map (λ rdn. 44 ∷ rdn_text rdn) rdns

unfoldable pub rdns_text : List Rdn → List ℕ
rdns_text [] = []
rdns_text (rdn ∷ rdns) = rdn_text rdn ++ others_text rdns

abbrev pub dn_text : Dn → List ℕ
dn_text dn = rdns_text dn.rdns

-- ---- one line

-- no control of ASCII stands in a text, so no line end does
abbrev pub has_no_control : List ℕ → Bool
has_no_control text = list_all (λ b. not (is_control b)) text
