-- The form of a syntax's values: which bytes are one, how it is shown, and by what it is compared.
use Rattle.std.specs.Prelude.{◌≡◌, ◌⊎◌, ℕ, ℤ, List, codes, IsAscii, FitsSigned}
use Rattle.std.specs.Str.{IsUtf8, str_to_ascii_lowercase}
use Rattle.std.specs.Fmt.{signed_decimal}
use Rattle.std.specs.Int.{Width, w32, w64}
use Rattle.ad_ids.specs.SidValue.{SidValue}
use Rattle.ad_ids.specs.Sid.{SpellsSid, sid_bytes}
use Rattle.ad_ids.specs.SidGrammar.{SpellsSidText}
use Rattle.ad_value.specs.declared.syntax.Syntax.{Syntax}
use Rattle.ad_value.specs.declared.syntax.Syntax.TheVariants as syntax
use Rattle.ad_value.specs.declared.value.Key.TheVariants as key
use Rattle.ad_value.specs.Value.{Value, value, as_shown}
use Rattle.ad_dn.specs.declared.rdn.Dn.{Dn}
use Rattle.ad_dn.specs.Grammar.{SpellsDn}
use Rattle.ad_dn.specs.Fold.{folded}
use Rattle.ad_dn.specs.NameKey.{name_key}

-- a name's text, shown as it is, and compared by the key of the name
pub record IsNameText (bytes : List ℕ) (v : Value) : Type 0 where
  pub dn : Dn
  pub spelled : SpellsDn dn bytes
  pub is : v ≡ value bytes (key.Bytes (name_key dn))

-- bytes below 128, compared without regard to ASCII case
pub record IsAsciiText (bytes : List ℕ) (v : Value) : Type 0 where
  pub ascii : IsAscii bytes
  pub is : v ≡ value bytes (key.Bytes (str_to_ascii_lowercase bytes))

-- a word in either case, shown as it is
pub record IsWord (word bytes : List ℕ) (v : Value) : Type 0 where
  pub spelled : str_to_ascii_lowercase bytes ≡ str_to_ascii_lowercase word
  pub is : v ≡ as_shown word

-- a signed number of this width, encoded in decimal as it is written
pub record IsNumber (width : Width) (bytes : List ℕ) (v : Value) : Type 0 where
  pub number : ℤ
  pub fits : FitsSigned width number
  pub spelled : bytes ≡ signed_decimal number
  pub is : v ≡ value bytes (key.Number number)

-- UTF-8, compared after full case folding
pub record IsText (bytes : List ℕ) (v : Value) : Type 0 where
  pub utf8 : IsUtf8 bytes
  pub is : v ≡ value bytes (key.Bytes (folded bytes))

-- a security identifier's bytes, or its text
abbrev pub IsSpelled : SidValue → List ℕ → Type 0
IsSpelled sid bytes = SpellsSid sid bytes ⊎ SpellsSidText sid bytes

-- shown in bytes
pub record IsIdentifier (bytes : List ℕ) (v : Value) : Type 0 where
  pub sid : SidValue
  pub spelled : IsSpelled sid bytes
  pub is : v ≡ as_shown (sid_bytes sid)

-- the value that the bytes are in a syntax
abbrev pub IsNormal : Syntax → List ℕ → Value → Type 0
IsNormal syntax.Name bytes v = IsNameText bytes v
IsNormal syntax.Ascii bytes v = IsAsciiText bytes v
IsNormal syntax.Boolean bytes v = IsWord (codes "TRUE") bytes v ⊎ IsWord (codes "FALSE") bytes v
IsNormal syntax.Integer bytes v = IsNumber w32 bytes v
IsNormal syntax.Large bytes v = IsNumber w64 bytes v
IsNormal syntax.Octets bytes v = v ≡ as_shown bytes
IsNormal syntax.Unicode bytes v = IsText bytes v
IsNormal syntax.Sid bytes v = IsIdentifier bytes v
IsNormal syntax.Other bytes v = v ≡ as_shown bytes
