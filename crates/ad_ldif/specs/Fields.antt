-- What one logical line says: a name, and a value as text or in base64.
use Rattle.std.specs.Prelude.{ℕ, Bool, ◌&&◌, ◌||◌, ◌==◌, not, nat_le, List, [], ◌∷◌, Result, Ok, Err, if◌then◌else◌}
use Rattle.std.specs.List.{list_all, list_any, before_first, after_first}
use Rattle.base64.specs.Engines.{standard}
use Rattle.base64.specs.GeneralPurpose.{decode_of}
use Rattle.ad_bytes.specs.Reading.{or_fault}
use Rattle.ad_ldif.specs.declared.fault.LdifKind.{LdifKind}
use Rattle.ad_ldif.specs.declared.fault.LdifKind.TheVariants as kind
use Rattle.ad_ldif.specs.Lines.{begins_with, is_empty, behind_first}

-- a letter, a digit, `-` (45) or `;` (59)
abbrev pub is_name_byte : ℕ → Bool
is_name_byte b = nat_le 97 b && nat_le b 122 || nat_le 65 b && nat_le b 90 || nat_le 48 b && nat_le b 57 || b == 45
    || b == 59

abbrev pub is_name : List ℕ → Bool
is_name name = not (is_empty name) && list_all is_name_byte name

abbrev pub is_colon : ℕ → Bool
is_colon b = b == 58

abbrev pub is_nul : ℕ → Bool
is_nul b = b == 0

-- A line has a colon with a name before it, and no NUL.
unfoldable pub is_line : List ℕ → Bool
is_line text = list_any is_colon text && not (list_any is_nul text) && is_name (before_first is_colon text)

-- what stands before the first colon, and after it
unfoldable pub name_of : List ℕ → List ℕ
name_of text = before_first is_colon text

unfoldable pub behind_colon : List ℕ → List ℕ
behind_colon text = after_first is_colon text

-- a space (32) or a tab (9)
abbrev pub is_blank : ℕ → Bool
is_blank b = b == 32 || b == 9

-- without the blanks at the start
unfoldable pub without_blanks : List ℕ → List ℕ
without_blanks [] = []
without_blanks (b ∷ bytes) = if is_blank b then without_blanks bytes else b ∷ bytes

-- the bytes that a text in base64 encodes, strictly: with its padding, and no bit or byte beside
unfoldable pub decoded : List ℕ → Result (List ℕ) LdifKind
decoded text = or_fault kind.Base64 (decode_of standard text)

-- The value after a name's colon: a text; after a second colon (58) base64; after `<` (60) would stand a URL.
unfoldable pub value_of : List ℕ → Result (List ℕ) LdifKind
value_of behind =
    if begins_with 58 behind then decoded (without_blanks (behind_first behind)) else
    (if begins_with 60 behind then Err kind.Url else Ok (without_blanks behind))
