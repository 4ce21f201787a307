-- What the lines of causes tell, and how they are read back.
use Rattle.std.specs.Prelude.{◌≡◌, ℕ, Bool, true, false, ◌==◌, if◌then◌else◌, Option, Some, None, option_map}
use Rattle.std.specs.Prelude.{option_and_then, List, [], ◌∷◌, ◌++◌, codes}
use Rattle.std.specs.Str.{bytes_eq}
use Rattle.ad_ids.specs.SidValue.{SidValue}
use Rattle.ad_ids.specs.Sid.{IsSid}
use Rattle.ad_ids.specs.SidText.{sid_text}
use Rattle.ad_ids.specs.SidFront.{sid_of_text}
use Rattle.ad_dn.specs.declared.rdn.Dn.{Dn}
use Rattle.ad_dn.specs.Value.{AreRdns}
use Rattle.ad_dn.specs.Text.{dn_text}
use Rattle.ad_dn.specs.Reading.{dn_of}
use Rattle.ad_causes.specs.Cause.{Cause, object, owner, protection, order, entry, class, primary, history, member, schema}
use Rattle.ad_causes.specs.Cause.{sign, divided}
use Rattle.ad_text_laws.specs.Lines.{is_line, word_of}

-- a line without its end
abbrev pub cause_text : Cause → List ℕ
cause_text (object more name) = codes "object " ++ (sign more ++ dn_text name)
cause_text (owner name sid) = codes "owner " ++ divided (dn_text name) (sid_text sid)
cause_text (protection name) = codes "protected " ++ dn_text name
cause_text (order name) = codes "order " ++ dn_text name
cause_text (entry more name text) = codes "entry " ++ (sign more ++ divided (dn_text name) text)
cause_text (class name) = codes "class " ++ dn_text name
cause_text (primary name) = codes "primary " ++ dn_text name
cause_text (history name) = codes "history " ++ dn_text name
cause_text (member more group name) = codes "member " ++ (sign more ++ divided (dn_text group) (dn_text name))
cause_text (schema name) = codes "schema " ++ name

-- ---- reading

-- the bytes before the first tab (9), and those after it; none where there is no tab
unfoldable pub parts_of : List ℕ → Option (List ℕ × List ℕ)
parts_of [] = None
parts_of (b ∷ bytes) =
    if b == 9 then Some ([], bytes) else option_map (λ (w : List ℕ × List ℕ). (b ∷ w.0, w.1)) (parts_of bytes)

abbrev pub sign_of : List ℕ → Option Bool
sign_of word =
    if bytes_eq word (codes "+") then Some true else if bytes_eq word (codes "-") then Some false else None

-- a sign, and what goes on after it
abbrev pub signed_by : List ℕ → (Bool → List ℕ → Option Cause) → Option Cause
signed_by text next = option_and_then (λ (w : List ℕ × List ℕ).
    option_and_then (λ (more : Bool). next more w.1) (sign_of w.0)) (word_of text)

-- two parts
abbrev pub two_by : List ℕ → (List ℕ → List ℕ → Option Cause) → Option Cause
two_by text next = option_and_then (λ (w : List ℕ × List ℕ). next w.0 w.1) (parts_of text)

abbrev pub named_by : (Dn → Cause) → List ℕ → Option Cause
named_by make text = option_map make (dn_of text)

unfoldable pub object_cause : List ℕ → Option Cause
object_cause text = signed_by text (λ more name. named_by (object more) name)

unfoldable pub owner_cause : List ℕ → Option Cause
owner_cause text =
    two_by text (λ name sid. option_and_then (λ (n : Dn). option_map (λ (s : SidValue). owner n s) (sid_of_text sid))
    (dn_of name))

unfoldable pub entry_cause : List ℕ → Option Cause
entry_cause text = signed_by text (λ more both. two_by both (λ name ace. named_by (λ (n : Dn). entry more n ace) name))

unfoldable pub member_cause : List ℕ → Option Cause
member_cause text =
    signed_by text (λ more both. two_by both (λ group name. option_and_then (λ (g : Dn). named_by (member more g) name)
    (dn_of group)))

-- what begins with this word; that of an object stands apart
abbrev pub cause_by : List ℕ → List ℕ → Option Cause
cause_by label rest =
    if bytes_eq label (codes "owner") then owner_cause rest
    else if bytes_eq label (codes "protected") then named_by protection rest
    else if bytes_eq label (codes "order") then named_by order rest
    else if bytes_eq label (codes "entry") then entry_cause rest
    else if bytes_eq label (codes "class") then named_by class rest
    else if bytes_eq label (codes "primary") then named_by primary rest
    else if bytes_eq label (codes "history") then named_by history rest
    else if bytes_eq label (codes "member") then member_cause rest
    else if bytes_eq label (codes "schema") then Some (schema rest)
    else None

-- ---- form

-- names have their form, and what stands at the end of a line has no line end
abbrev pub IsCauseLine : Cause → Type 0
IsCauseLine (object more name) = AreRdns name.rdns
IsCauseLine (owner name sid) = AreRdns name.rdns × IsSid sid
IsCauseLine (protection name) = AreRdns name.rdns
IsCauseLine (order name) = AreRdns name.rdns
IsCauseLine (entry more name text) = AreRdns name.rdns × (is_line text ≡ true)
IsCauseLine (class name) = AreRdns name.rdns
IsCauseLine (primary name) = AreRdns name.rdns
IsCauseLine (history name) = AreRdns name.rdns
IsCauseLine (member more group name) = AreRdns group.rdns × AreRdns name.rdns
IsCauseLine (schema name) = is_line name ≡ true
