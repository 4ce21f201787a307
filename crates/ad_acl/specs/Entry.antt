-- An access control entry, as contracts see it, and its bytes.
use Rattle.std.specs.Prelude.{◌≡◌, ℕ, ◌+◌, ◌^◌, ◌<◌, ◌⊎◌, Bool, true, false, not, ◌==◌, bit_and, Option, None, Some}
use Rattle.std.specs.Prelude.{List, [], ◌∷◌, ◌++◌, length}
use Rattle.ad_bytes.specs.Reading.{IsBytes}
use Rattle.ad_bytes.specs.Numbers.{le_bytes, SpellsLe}
use Rattle.ad_ids.specs.declared.guid.Guid.{Guid}
use Rattle.ad_ids.specs.Guid.{SpellsGuid}
use Rattle.ad_ids.specs.SidValue.{SidValue}
use Rattle.ad_ids.specs.Sid.{SpellsSid}
use Rattle.ad_acl.specs.declared.kind.AceKind.{AceKind}
use Rattle.ad_acl.specs.declared.kind.AceKind.TheVariants.{Allow, Deny, Audit}

pub record Entry : Type 0 where
  pub kind : AceKind
  pub flags : ℕ
  pub mask : ℕ
  pub object : Option Guid
  pub inherited : Option Guid
  pub sid : SidValue

-- the type byte of a plain entry, and of one with object flags
abbrev pub type_code : Bool → AceKind → ℕ
type_code false Allow = 0
type_code false Deny = 1
type_code false Audit = 2
type_code true Allow = 5
type_code true Deny = 6
type_code true Audit = 7

-- a byte says the flags, and the bit 0x20 of it nothing
pub record SpellsFlags (flags byte : ℕ) : Type 0 where
  pub fits : byte < 256
  pub clear : bit_and flags 32 ≡ 0
  pub with_or_without : (byte ≡ flags) ⊎ (byte ≡ flags + 32)

-- the object flags have this bit
abbrev pub says : ℕ → ℕ → Bool
says which bit = not (bit_and which bit == 0)

-- a GUID where the object flags say that it stands, and otherwise none
abbrev pub SpellsGuidIf : Bool → Option Guid → List ℕ → Type 0
SpellsGuidIf false None text = text ≡ []
SpellsGuidIf false (Some g) text = ⊥
SpellsGuidIf true None text = ⊥
SpellsGuidIf true (Some g) text = SpellsGuid g text

-- the object flags, of which a plain entry has none
abbrev pub SpellsWhich : Bool → ℕ → List ℕ → Type 0
SpellsWhich false which text = (which ≡ 0) × (text ≡ [])
SpellsWhich true which text = SpellsLe 4 which text

-- The mask, the object flags, and the GUIDs that these say: the object type by bit 1, the inherited type by bit 2.
-- The other bits of the object flags say nothing.
pub record SpellsFixed (is_object : Bool) (mask : ℕ) (object inherited : Option Guid) (text : List ℕ) : Type 0 where
  pub which : ℕ
  pub which_text : List ℕ
  pub object_text : List ℕ
  pub inherited_text : List ℕ
  pub mask_fits : mask < 2 ^ 32
  pub which_is : SpellsWhich is_object which which_text
  pub object_is : SpellsGuidIf (says which 1) object object_text
  pub inherited_is : SpellsGuidIf (says which 2) inherited inherited_text
  pub parts : text ≡ le_bytes 4 mask ++ (which_text ++ (object_text ++ inherited_text))

-- Type, flags, the size of the whole entry, its fixed part and its SID, and any bytes after it.
pub record SpellsEntry (entry : Entry) (text : List ℕ) : Type 0 where
  pub is_object : Bool
  pub flags : ℕ
  pub fixed : List ℕ
  pub sid : List ℕ
  pub behind : List ℕ
  pub flags_are : SpellsFlags entry.flags flags
  pub fixed_is : SpellsFixed is_object entry.mask entry.object entry.inherited fixed
  pub sid_is : SpellsSid entry.sid sid
  pub behind_fits : IsBytes behind
  pub size_fits : length text < 2 ^ 16
  pub parts : text ≡ type_code is_object entry.kind ∷ flags ∷ le_bytes 2 (length text) ++ (fixed ++ (sid ++ behind))
