-- What the lines of list tell, and how they are read back.
use Rattle.std.specs.Prelude.{◌≡◌, ℕ, Bool, true, false, Option, Some, None, option_map, option_and_then, List, ◌∷◌, ◌++◌}
use Rattle.std.specs.Prelude.{if◌then◌else◌, codes, map}
use Rattle.std.specs.List.{AllByRecursion, flat_map}
use Rattle.std.specs.Str.{bytes_eq}
use Rattle.ad_bytes.specs.Puts.{spaced, ended}
use Rattle.ad_ids.specs.SidValue.{SidValue}
use Rattle.ad_ids.specs.Sid.{IsSid}
use Rattle.ad_ids.specs.SidText.{sid_text}
use Rattle.ad_ids.specs.SidFront.{sid_of_text}
use Rattle.ad_acl.specs.declared.kind.AceKind.{AceKind}
use Rattle.ad_acl.specs.declared.kind.AceKind.TheVariants.{Allow, Deny, Audit}
use Rattle.ad_dn.specs.declared.rdn.Dn.{Dn}
use Rattle.ad_dn.specs.Value.{AreRdns}
use Rattle.ad_dn.specs.Text.{dn_text}
use Rattle.ad_dn.specs.Reading.{dn_of}
use Rattle.ad_text_laws.specs.Lines.{is_word, word_of}
use Rattle.ad_acl.specs.Entry.{Entry, says}
use Rattle.ad_sd.specs.declared.parts.Sd.{Sd}
use Rattle.ad_sddl.specs.Canonical.{rights_text}
use Rattle.ad_schema.specs.declared.line.SchemaRecord.{SchemaRecord}
use Rattle.ad_dsacls.specs.Words.{or_dash, kind_text, flags_text, type_text}

-- an entry: its kind and identifier, the words of its rights, types and flags, and whether it was inherited
pub record EntryWords : Type 0 where
  pub kind : AceKind
  pub sid : SidValue
  pub rights : List ℕ
  pub object : List ℕ
  pub inherited : List ℕ
  pub flags : List ℕ
  pub passed : Bool

pub data ListLine : Type 0 where
  object : Dn → ListLine
  owned_by : SidValue → ListLine
  grouped_by : SidValue → ListLine
  dacl : Bool → ListLine
  sacl : Bool → ListLine
  entry : EntryWords → ListLine

abbrev pub protection_word : Bool → List ℕ
protection_word protected = if protected then codes "protected" else codes "inherits"

abbrev pub origin_word : Bool → List ℕ
origin_word passed = if passed then codes "inherited" else codes "explicit"

abbrev pub entry_text : EntryWords → List ℕ
entry_text e = spaced (sid_text e.sid)
    ++ (spaced e.rights ++ (spaced e.object ++ (spaced e.inherited ++ (spaced e.flags ++ origin_word e.passed))))

abbrev pub list_line : ListLine → List ℕ
list_line (object dn) = codes "object " ++ dn_text dn
list_line (owned_by sid) = codes "owner " ++ sid_text sid
list_line (grouped_by sid) = codes "group " ++ sid_text sid
list_line (dacl protected) = codes "dacl " ++ protection_word protected
list_line (sacl protected) = codes "sacl " ++ protection_word protected
list_line (entry e) = spaced (kind_text e.kind) ++ entry_text e

-- ---- reading

abbrev pub protection_of : List ℕ → Option Bool
protection_of word =
    if bytes_eq word (codes "protected") then Some true
    else if bytes_eq word (codes "inherits") then Some false
    else None

abbrev pub origin_of : List ℕ → Option Bool
origin_of word =
    if bytes_eq word (codes "inherited") then Some true
    else if bytes_eq word (codes "explicit") then Some false
    else None

abbrev pub words_by : AceKind → SidValue → List ℕ → List ℕ → List ℕ → List ℕ → Bool → ListLine
words_by kind sid rights type child flags passed = entry (record {
  kind = kind;
  sid = sid;
  rights = rights;
  object = type;
  inherited = child;
  flags = flags;
  passed = passed;
})

-- a word of a line, and what goes on after it
abbrev pub then_by : List ℕ → (List ℕ → List ℕ → Option ListLine) → Option ListLine
then_by line next = option_and_then (λ (w : List ℕ × List ℕ). next w.0 w.1) (word_of line)

unfoldable pub entry_of : AceKind → List ℕ → Option ListLine
entry_of kind text =
    then_by text (λ sid_word after_sid. then_by after_sid (λ rights after_rights. then_by after_rights (λ type after_type.
    then_by after_type (λ child after_child. then_by after_child (λ flags origin.
    option_and_then (λ (sid : SidValue). option_map (λ (passed : Bool).
    words_by kind sid rights type child flags passed) (origin_of origin)) (sid_of_text sid_word))))))

abbrev pub list_line_by : List ℕ → List ℕ → Option ListLine
list_line_by label rest =
    if bytes_eq label (codes "object") then option_map object (dn_of rest)
    else if bytes_eq label (codes "owner") then option_map owned_by (sid_of_text rest)
    else if bytes_eq label (codes "group") then option_map grouped_by (sid_of_text rest)
    else if bytes_eq label (codes "dacl") then option_map dacl (protection_of rest)
    else if bytes_eq label (codes "sacl") then option_map sacl (protection_of rest)
    else if bytes_eq label (codes "allow") then entry_of Allow rest
    else if bytes_eq label (codes "deny") then entry_of Deny rest
    else if bytes_eq label (codes "audit") then entry_of Audit rest
    else None

unfoldable pub list_line_of : List ℕ → Option ListLine
list_line_of line = then_by line list_line_by

-- ---- form

pub record IsEntryWords (e : EntryWords) : Type 0 where
  pub sid : IsSid e.sid
  pub rights : is_word e.rights ≡ true
  pub object : is_word e.object ≡ true
  pub inherited : is_word e.inherited ≡ true
  pub flags : is_word e.flags ≡ true

abbrev pub IsListLine : ListLine → Type 0
IsListLine (object dn) = AreRdns dn.rdns
IsListLine (owned_by sid) = IsSid sid
IsListLine (grouped_by sid) = IsSid sid
IsListLine (dacl protected) = Unit {0}
IsListLine (sacl protected) = Unit {0}
IsListLine (entry e) = IsEntryWords e

-- the text of the lines
abbrev pub list_text : List ListLine → List ℕ
list_text lines = flat_map (λ (line : ListLine). ended (list_line line)) lines

-- ---- a descriptor

-- what the line of an entry tells
abbrev pub words_at : List SchemaRecord → Entry → EntryWords
words_at schema e = record {
  kind = e.kind;
  sid = e.sid;
  rights = or_dash (rights_text e.mask);
  object = type_text schema e.object;
  inherited = type_text schema e.inherited;
  flags = or_dash (flags_text e.flags);
  passed = says e.flags 16;
}

abbrev pub entries_at : List SchemaRecord → List Entry → List ListLine
entries_at schema entries = map (λ (e : Entry). entry (words_at schema e)) entries

-- what the lines of an object of this name tell
abbrev pub lines_at : List SchemaRecord → Dn → Sd → List ListLine
lines_at schema dn sd =
    object dn ∷ owned_by sd.owner ∷ grouped_by sd.group
    ∷ (dacl sd.dacl.protected ∷ entries_at schema sd.dacl.entries)
    ++ sacl sd.sacl.protected ∷ entries_at schema sd.sacl.entries

-- The name and the identifiers have their form.
pub record IsListed (dn : Dn) (sd : Sd) : Type 0 where
  pub name : AreRdns dn.rdns
  pub owner : IsSid sd.owner
  pub group : IsSid sd.group
  pub dacl : AllByRecursion (λ (e : Entry). IsSid e.sid) sd.dacl.entries
  pub sacl : AllByRecursion (λ (e : Entry). IsSid e.sid) sd.sacl.entries
