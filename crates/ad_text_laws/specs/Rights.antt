-- What the lines of rights tell, and how they are read back.
use Rattle.std.specs.Prelude.{◌≡◌, ℕ, ◌^◌, ◌<◌, Option, Some, None, option_map, option_and_then, List, ◌++◌}
use Rattle.std.specs.Prelude.{if◌then◌else◌, codes, decimal}
use Rattle.std.specs.List.{flat_map}
use Rattle.std.specs.Option.{option_or}
use Rattle.std.specs.Str.{bytes_eq}
use Rattle.ad_bytes.specs.Puts.{spaced, ended}
use Rattle.ad_ids.specs.SidValue.{SidValue}
use Rattle.ad_ids.specs.Sid.{IsSid}
use Rattle.ad_ids.specs.SidText.{sid_text}
use Rattle.ad_ids.specs.SidFront.{sid_of_text}
use Rattle.ad_dn.specs.declared.rdn.Dn.{Dn}
use Rattle.ad_dn.specs.Value.{AreRdns}
use Rattle.ad_dn.specs.Text.{dn_text}
use Rattle.ad_dn.specs.Reading.{dn_of}
use Rattle.ad_sets.specs.declared.told.Sign.{Sign}
use Rattle.ad_sets.specs.declared.told.Sign.TheVariants.{Same, With, Without}
use Rattle.ad_rights_dir.specs.Rights.{sign_text}
use Rattle.ad_text_laws.specs.Lines.{word_of, number_of}
use Rattle.ad_text_laws.specs.Facts.{title_text, title_in, HasTitle}

-- Who has no token; who stands in the set of a number; and an object, with the number of its set and the sign.
pub data RightsLine : Type 0 where
  without : SidValue → Option Dn → RightsLine
  member : ℕ → SidValue → Option Dn → RightsLine
  object : ℕ → Sign → Dn → RightsLine

abbrev pub rights_line : RightsLine → List ℕ
rights_line (without sid name) = codes "none " ++ (spaced (sid_text sid) ++ title_text name)
rights_line (member number sid name) =
    codes "in " ++ (spaced (decimal number) ++ (spaced (sid_text sid) ++ title_text name))
rights_line (object number sign name) = codes "on " ++ (spaced (decimal number) ++ (sign_text sign ++ dn_text name))

-- ---- reading

-- a word of a line, and what goes on after it
abbrev pub then_by : {A : Type 0} → List ℕ → (List ℕ → List ℕ → Option A) → Option A
then_by line next = option_and_then (λ (w : List ℕ × List ℕ). next w.0 w.1) (word_of line)

-- an identifier and a name
unfoldable pub who_of : (SidValue → Option Dn → RightsLine) → List ℕ → Option RightsLine
who_of makes text =
    then_by text (λ word rest. option_and_then (λ (sid : SidValue). option_map (makes sid) (title_in rest))
    (sid_of_text word))

unfoldable pub member_of : List ℕ → Option RightsLine
member_of text =
    then_by text (λ word rest. option_and_then (λ (number : ℕ). who_of (member number) rest) (number_of word))

-- a name alone, or after its sign
abbrev pub signed_by : ℕ → List ℕ → List ℕ → Option RightsLine
signed_by number word rest =
    if bytes_eq word (codes "+") then option_map (object number With) (dn_of rest)
    else if bytes_eq word (codes "-") then option_map (object number Without) (dn_of rest)
    else None

unfoldable pub signed_of : ℕ → List ℕ → Option RightsLine
signed_of number text = option_or (option_map (object number Same) (dn_of text)) (then_by text (signed_by number))

unfoldable pub object_of : List ℕ → Option RightsLine
object_of text =
    then_by text (λ word rest. option_and_then (λ (number : ℕ). signed_of number rest) (number_of word))

abbrev pub rights_line_by : List ℕ → List ℕ → Option RightsLine
rights_line_by label rest =
    if bytes_eq label (codes "none") then who_of without rest
    else if bytes_eq label (codes "in") then member_of rest
    else if bytes_eq label (codes "on") then object_of rest
    else None

unfoldable pub rights_line_of : List ℕ → Option RightsLine
rights_line_of line = then_by line rights_line_by

-- ---- form

-- numbers are below 2^64, and identifiers and names have their form
abbrev pub IsRightsLine : RightsLine → Type 0
IsRightsLine (without sid name) = IsSid sid × HasTitle name
IsRightsLine (member number sid name) = (number < 2 ^ 64) × (IsSid sid × HasTitle name)
IsRightsLine (object number sign name) = (number < 2 ^ 64) × AreRdns name.rdns

-- the text of lines
abbrev pub rights_text : List RightsLine → List ℕ
rights_text lines = flat_map (λ (line : RightsLine). ended (rights_line line)) lines
