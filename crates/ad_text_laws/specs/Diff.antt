-- What the lines of diff tell, and how they are read back.
use Rattle.std.specs.Prelude.{◌≡◌, ℕ, ◌^◌, ◌<◌, true, Option, Some, None, option_map, option_and_then, List, ◌++◌}
use Rattle.std.specs.Prelude.{if◌then◌else◌, codes, decimal}
use Rattle.std.specs.List.{flat_map}
use Rattle.std.specs.Option.{option_or}
use Rattle.std.specs.Str.{bytes_eq}
use Rattle.ad_bytes.specs.Puts.{spaced, ended}
use Rattle.ad_ids.specs.SidValue.{SidValue}
use Rattle.ad_ids.specs.Sid.{IsSid}
use Rattle.ad_ids.specs.SidText.{sid_text}
use Rattle.ad_ids.specs.SidFront.{sid_of_text}
use Rattle.ad_dn.specs.declared.rdn.Dn.{Dn}
use Rattle.ad_dn.specs.Value.{AreRdns}
use Rattle.ad_dn.specs.Text.{dn_text}
use Rattle.ad_dn.specs.Reading.{dn_of}
use Rattle.ad_causes.specs.Cause.{Cause}
use Rattle.ad_text_laws.specs.Lines.{is_line, word_of, number_of}
use Rattle.ad_text_laws.specs.CauseLines.{cause_text, object_cause, cause_by, IsCauseLine}

-- A cause; a principal or an object with the number of its group; the groups of principals and of objects that a block is
-- of; and a label that is gained or lost within it.
pub data DiffLine : Type 0 where
  cause : Cause → DiffLine
  principal : ℕ → SidValue → Dn → DiffLine
  object : ℕ → Dn → DiffLine
  block : ℕ → ℕ → DiffLine
  gained : List ℕ → DiffLine
  lost : List ℕ → DiffLine

abbrev pub diff_line : DiffLine → List ℕ
diff_line (cause c) = cause_text c
diff_line (principal group sid name) =
    codes "principal " ++ (spaced (decimal group) ++ (spaced (sid_text sid) ++ dn_text name))
diff_line (object group name) = codes "object " ++ (spaced (decimal group) ++ dn_text name)
diff_line (block principals objects) =
    codes "principals " ++ (spaced (decimal principals) ++ (spaced (codes "objects") ++ decimal objects))
diff_line (gained label) = codes "+ " ++ label
diff_line (lost label) = codes "- " ++ label

-- ---- reading

-- a word of a line, and what goes on after it
abbrev pub then_by : List ℕ → (List ℕ → List ℕ → Option DiffLine) → Option DiffLine
then_by line next = option_and_then (λ (w : List ℕ × List ℕ). next w.0 w.1) (word_of line)

unfoldable pub principal_of : List ℕ → Option DiffLine
principal_of text =
    then_by text (λ number after_number. then_by after_number (λ sid_word name_text.
    option_and_then (λ (group : ℕ). option_and_then (λ (sid : SidValue). option_map (λ (name : Dn).
    principal group sid name) (dn_of name_text)) (sid_of_text sid_word)) (number_of number)))

unfoldable pub object_of : List ℕ → Option DiffLine
object_of text =
    then_by text (λ number name_text. option_and_then (λ (group : ℕ). option_map (λ (name : Dn). object group name)
    (dn_of name_text)) (number_of number))

unfoldable pub block_of : List ℕ → Option DiffLine
block_of text =
    then_by text (λ number after_number. then_by after_number (λ label other.
    if bytes_eq label (codes "objects") then option_and_then (λ (principals : ℕ). option_map (λ (objects : ℕ).
    block principals objects) (number_of other)) (number_of number) else None))

-- an object in a group, or one that is one directory's alone
abbrev pub object_by : List ℕ → Option DiffLine
object_by rest = option_or (object_of rest) (option_map cause (object_cause rest))

abbrev pub diff_line_by : List ℕ → List ℕ → Option DiffLine
diff_line_by label rest =
    if bytes_eq label (codes "principal") then principal_of rest
    else if bytes_eq label (codes "object") then object_by rest
    else if bytes_eq label (codes "principals") then block_of rest
    else if bytes_eq label (codes "+") then Some (gained rest)
    else if bytes_eq label (codes "-") then Some (lost rest)
    else option_map cause (cause_by label rest)

unfoldable pub diff_line_of : List ℕ → Option DiffLine
diff_line_of line = then_by line diff_line_by

-- ---- form

-- numbers are below 2^64, and a label has no line end
abbrev pub IsDiffLine : DiffLine → Type 0
IsDiffLine (cause c) = IsCauseLine c
IsDiffLine (principal group sid name) = (group < 2 ^ 64) × IsSid sid × AreRdns name.rdns
IsDiffLine (object group name) = (group < 2 ^ 64) × AreRdns name.rdns
IsDiffLine (block principals objects) = (principals < 2 ^ 64) × (objects < 2 ^ 64)
IsDiffLine (gained label) = is_line label ≡ true
IsDiffLine (lost label) = is_line label ≡ true

-- the text of lines
abbrev pub diff_text : List DiffLine → List ℕ
diff_text lines = flat_map (λ (line : DiffLine). ended (diff_line line)) lines
