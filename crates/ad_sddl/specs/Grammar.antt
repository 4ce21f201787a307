-- Which texts encode the parts of a security descriptor. Letters may stand in either case: the grammar is that of
-- texts in lower case, and a text is looked at as one.
use Rattle.std.specs.Prelude.{◌≡◌, ◌⊎◌, ℕ, ◌+◌, ◌*◌, ◌≤◌, Bool, true, false, bit_or, if◌then◌else◌, Option, Some}
use Rattle.std.specs.Prelude.{None, List, [], ◌∷◌, ◌++◌, length, codes}
use Rattle.std.specs.List.{flat_map, list_any, AllByRecursion}
use Rattle.std.specs.Option.{is_some}
use Rattle.std.specs.Str.{bytes_eq, str_to_ascii_lowercase}
use Rattle.uuid.specs.Text.{is_hex_digit, value_of}
use Rattle.ad_bytes.specs.Reading.{SpellsEach}
use Rattle.ad_ids.specs.declared.guid.Guid.{Guid}
use Rattle.ad_ids.specs.GuidText.{SpellsGuidText}
use Rattle.ad_ids.specs.SidValue.{SidValue}
use Rattle.ad_ids.specs.SidGrammar.{SpellsSidText}
use Rattle.ad_acl.specs.declared.kind.AceKind.{AceKind}
use Rattle.ad_acl.specs.declared.kind.AceKind.TheVariants.{Allow, Deny, Audit}
use Rattle.ad_acl.specs.Entry.{Entry}
use Rattle.ad_sd.specs.declared.parts.AceList.{AceList}
use Rattle.ad_sd.specs.declared.parts.SdParts.{SdParts}
use Rattle.ad_acl.specs.declared.codes.Code.{Code}
use Rattle.ad_sddl.specs.declared.words.Alias.{Alias}
use Rattle.ad_sddl.specs.Words.{find, find_alias, alias_codes, meant_by}
use Rattle.ad_acl.specs.Codes.{flag_codes, right_codes}

-- ---- flags and rights

abbrev pub lower_letters : Code → List ℕ
lower_letters code = str_to_ascii_lowercase code.letters

-- a code of the table
abbrev pub IsIn : List Code → Code → Type 0
IsIn table code = (first : ℕ) × (second : ℕ) × (lower_letters code ≡ first ∷ second ∷ [])
    × (find table first second ≡ Some code)

-- the mask with the bits of each code added
abbrev pub with_codes : ℕ → List Code → ℕ
with_codes mask [] = mask
with_codes mask (code ∷ codes) = with_codes (bit_or mask code.bits) codes

-- any codes of the table, one after the other, and the mask of their bits
pub record SpellsCodes (table : List Code) (mask : ℕ) (text : List ℕ) : Type 0 where
  pub given : List Code
  pub each : AllByRecursion (IsIn table) given
  pub mask_is : mask ≡ with_codes 0 given
  pub parts : text ≡ flat_map lower_letters given

-- the number of hexadecimal digits, after those of n
abbrev pub digits_value : ℕ → List ℕ → ℕ
digits_value n [] = n
digits_value n (d ∷ digits) = digits_value (n * 16 + value_of d) digits

-- 0x and 1 to 8 hexadecimal digits
pub record SpellsHex (mask : ℕ) (text : List ℕ) : Type 0 where
  pub digits : List ℕ
  pub each : AllByRecursion (λ d. is_hex_digit d ≡ true) digits
  pub at_least_one : 1 ≤ length digits
  pub at_most_8 : length digits ≤ 8
  pub mask_is : mask ≡ digits_value 0 digits
  pub parts : text ≡ codes "0x" ++ digits

abbrev pub SpellsRights : ℕ → List ℕ → Type 0
SpellsRights mask text = SpellsHex mask text ⊎ SpellsCodes right_codes mask text

-- ---- identifiers

-- an alias, whose identifier may depend on the domain that is given
pub record SpellsAlias (domain : Option SidValue) (sid : SidValue) (text : List ℕ) : Type 0 where
  pub first : ℕ
  pub second : ℕ
  pub alias : Alias
  pub parts : text ≡ first ∷ second ∷ []
  pub known : find_alias alias_codes first second ≡ Some alias
  pub meant : meant_by domain alias.base alias.number ≡ Some sid

abbrev pub SpellsSid : Option SidValue → SidValue → List ℕ → Type 0
SpellsSid domain sid text = SpellsSidText sid text ⊎ SpellsAlias domain sid text

-- ---- entries

-- the type of an entry, in capitals: entries that may have GUIDs have types of their own
abbrev pub type_text : Bool → AceKind → List ℕ
type_text false Allow = codes "A"
type_text false Deny = codes "D"
type_text false Audit = codes "AU"
type_text true Allow = codes "OA"
type_text true Deny = codes "OD"
type_text true Audit = codes "OU"

-- a GUID, which may be absent, and has to be in an entry of a plain type
abbrev pub SpellsGuidIf : Bool → Option Guid → List ℕ → Type 0
SpellsGuidIf is_object None text = text ≡ []
SpellsGuidIf false (Some guid) text = ⊥
SpellsGuidIf true (Some guid) text = SpellsGuidText guid text

-- ( and ) round type, flags, rights, object type, inherited type and identifier, with ; between them
abbrev pub entry_of : List ℕ → List ℕ → List ℕ → List ℕ → List ℕ → List ℕ → List ℕ
entry_of kind flags rights object inherited sid =
    codes "(" ++ (kind ++ (codes ";" ++ (flags ++ (codes ";"
    ++ (rights ++ (codes ";" ++ (object ++ (codes ";"
    ++ (inherited ++ (codes ";" ++ (sid ++ codes ")")))))))))))

pub record SpellsEntry (domain : Option SidValue) (entry : Entry) (text : List ℕ) : Type 0 where
  pub is_object : Bool
  pub flags : List ℕ
  pub rights : List ℕ
  pub object : List ℕ
  pub inherited : List ℕ
  pub sid : List ℕ
  pub flags_are : SpellsCodes flag_codes entry.flags flags
  pub rights_are : SpellsRights entry.mask rights
  pub object_is : SpellsGuidIf is_object entry.object object
  pub inherited_is : SpellsGuidIf is_object entry.inherited inherited
  pub sid_is : SpellsSid domain entry.sid sid
  pub parts : text ≡ entry_of (str_to_ascii_lowercase (type_text is_object entry.kind)) flags rights object inherited
      sid

-- ---- lists

-- P protects a list; AR and AI say nothing
abbrev pub IsListFlag : List ℕ → Type 0
IsListFlag flag = (flag ≡ codes "p") ⊎ ((flag ≡ codes "ar") ⊎ (flag ≡ codes "ai"))

abbrev pub is_p : List ℕ → Bool
is_p flag = bytes_eq flag (codes "p")

abbrev pub same : List ℕ → List ℕ
same flag = flag

-- any flags, one after the other, and whether P is among them
pub record SpellsListFlags (protected : Bool) (text : List ℕ) : Type 0 where
  pub given : List (List ℕ)
  pub each : AllByRecursion IsListFlag given
  pub protected_is : protected ≡ list_any is_p given
  pub parts : text ≡ flat_map same given

pub record SpellsList (domain : Option SidValue) (list : AceList) (text : List ℕ) : Type 0 where
  pub flags : List ℕ
  pub entries : List ℕ
  pub flags_are : SpellsListFlags list.protected flags
  pub entries_are : SpellsEach (SpellsEntry domain) list.entries entries
  pub parts : text ≡ flags ++ entries

-- ---- the descriptor

-- a part of a descriptor
pub data Piece : Type 0 where
  owner : SidValue → Piece
  group : SidValue → Piece
  dacl : AceList → Piece
  sacl : AceList → Piece

-- the letter of a part, a colon, and its text
pub record Headed (Spells : List ℕ → Type 0) (head : List ℕ) (text : List ℕ) : Type 0 where
  pub behind : List ℕ
  pub spelled : Spells behind
  pub parts : text ≡ head ++ behind

abbrev pub SpellsPiece : Option SidValue → Piece → List ℕ → Type 0
SpellsPiece domain (owner sid) text = Headed (SpellsSid domain sid) (codes "o:") text
SpellsPiece domain (group sid) text = Headed (SpellsSid domain sid) (codes "g:") text
SpellsPiece domain (dacl list) text = Headed (SpellsList domain list) (codes "d:") text
SpellsPiece domain (sacl list) text = Headed (SpellsList domain list) (codes "s:") text

-- the parts with one more, which isn't there yet
abbrev pub with_piece : SdParts → Piece → Option SdParts
with_piece p (owner sid) = if is_some p.owner then None else Some (record p { owner = Some sid })
with_piece p (group sid) = if is_some p.group then None else Some (record p { group = Some sid })
with_piece p (dacl list) = if is_some p.dacl then None else Some (record p { dacl = Some list })
with_piece p (sacl list) = if is_some p.sacl then None else Some (record p { sacl = Some list })

abbrev pub with_pieces : Option SdParts → List Piece → Option SdParts
with_pieces None pieces = None
with_pieces (Some p) [] = Some p
with_pieces (Some p) (piece ∷ pieces) = with_pieces (with_piece p piece) pieces

abbrev pub no_parts : SdParts
no_parts = record { owner = None; group = None; dacl = None; sacl = None }

-- one part or more, in any order, and none of them twice
pub record SpellsPieces (domain : Option SidValue) (parts : SdParts) (text : List ℕ) : Type 0 where
  pub pieces : List Piece
  pub at_least_one : 1 ≤ length pieces
  pub spelled : SpellsEach (SpellsPiece domain) pieces text
  pub parts_are : with_pieces (Some no_parts) pieces ≡ Some parts

abbrev pub SpellsSddl : Option SidValue → SdParts → List ℕ → Type 0
SpellsSddl domain parts text = SpellsPieces domain parts (str_to_ascii_lowercase text)
