-- The self-relative bytes of a security descriptor.
use Rattle.std.specs.Prelude.{◌≡◌, ◌⊎◌, ℕ, ◌^◌, ◌<◌, Bool, true, false, Option, None, Some, List, [], ◌∷◌, ◌++◌, length}
use Rattle.ad_bytes.specs.Numbers.{le_bytes}
use Rattle.ad_ids.specs.SidValue.{SidValue}
use Rattle.ad_ids.specs.Sid.{SpellsSid}
use Rattle.ad_acl.specs.Entry.{says}
use Rattle.ad_acl.specs.Acl.{SpellsList}
use Rattle.ad_sd.specs.declared.parts.AceList.{AceList}
use Rattle.ad_sd.specs.declared.parts.Sd.{Sd}
use Rattle.ad_sd.specs.declared.parts.SdParts.{SdParts}

-- ---- the control bits

abbrev pub dacl_present : ℕ
dacl_present = 0x4

abbrev pub sacl_present : ℕ
sacl_present = 0x10

abbrev pub dacl_protected : ℕ
dacl_protected = 0x1000

abbrev pub sacl_protected : ℕ
sacl_protected = 0x2000

-- ---- parts at their offsets

-- An encoding of the value stands at the offset. Parts may stand in any order and overlap.
pub record StandsAt {A : Type 0} (Spells : A → List ℕ → Type 0) (bytes : List ℕ) (offset : ℕ) (value : A) : Type 0 where
  pub before : List ℕ
  pub text : List ℕ
  pub behind : List ℕ
  pub place : length before ≡ offset
  pub parts : bytes ≡ before ++ (text ++ behind)
  pub spelled : Spells value text

-- an identifier is absent at offset 0
abbrev pub SpellsSidAt : List ℕ → ℕ → Option SidValue → Type 0
SpellsSidAt bytes offset None = offset ≡ 0
SpellsSidAt bytes offset (Some sid) = (0 < offset) × StandsAt SpellsSid bytes offset sid

-- a list at an offset, and whether it is protected
pub record SpellsListAt (bytes : List ℕ) (offset : ℕ) (protected : Bool) (list : AceList) : Type 0 where
  pub not_null : 0 < offset
  pub protected_is : list.protected ≡ protected
  pub entries : StandsAt SpellsList bytes offset list.entries

-- the SACL is absent without its bit, and at offset 0
abbrev pub SpellsSacl : List ℕ → ℕ → ℕ → Option AceList → Type 0
SpellsSacl bytes control offset None = (says control sacl_present ≡ false) ⊎ (offset ≡ 0)
SpellsSacl bytes control offset (Some list) = (says control sacl_present ≡ true) × SpellsListAt bytes offset
    (says control sacl_protected) list

-- the DACL is absent without its bit alone
abbrev pub SpellsDacl : List ℕ → ℕ → ℕ → Option AceList → Type 0
SpellsDacl bytes control offset None = says control dacl_present ≡ false
SpellsDacl bytes control offset (Some list) = (says control dacl_present ≡ true) × SpellsListAt bytes offset
    (says control dacl_protected) list

-- ---- the descriptor

-- the header: revision 1, a free byte, the control bits and the offsets of owner, group, SACL and
-- DACL, each number with its least significant byte first
abbrev pub headed : ℕ → ℕ → ℕ → ℕ → ℕ → ℕ → ℕ → List ℕ → List ℕ
headed revision free control owner group sacl dacl behind = revision ∷ free ∷ le_bytes 2 control
    ++ (le_bytes 4 owner ++ (le_bytes 4 group ++ (le_bytes 4 sacl ++ (le_bytes 4 dacl ++ behind))))

-- The header, and each part at its offset. The other control bits, and bytes that belong to no part, say nothing.
pub record SpellsParts (p : SdParts) (bytes : List ℕ) : Type 0 where
  pub free : ℕ
  pub control : ℕ
  pub owner : ℕ
  pub group : ℕ
  pub sacl : ℕ
  pub dacl : ℕ
  pub behind : List ℕ
  pub control_fits : control < 2 ^ 16
  pub owner_fits : owner < 2 ^ 32
  pub group_fits : group < 2 ^ 32
  pub sacl_fits : sacl < 2 ^ 32
  pub dacl_fits : dacl < 2 ^ 32
  pub header : bytes ≡ headed 1 free control owner group sacl dacl behind
  pub owner_is : SpellsSidAt bytes owner p.owner
  pub group_is : SpellsSidAt bytes group p.group
  pub sacl_is : SpellsSacl bytes control sacl p.sacl
  pub dacl_is : SpellsDacl bytes control dacl p.dacl

-- an absent SACL is an empty one
abbrev pub list_or_empty : Option AceList → AceList
list_or_empty None = record { protected = false; entries = [] }
list_or_empty (Some list) = list

-- All parts are there, but for the SACL.
pub record SpellsSd (sd : Sd) (bytes : List ℕ) : Type 0 where
  pub given : SdParts
  pub parts : SpellsParts given bytes
  pub owner : given.owner ≡ Some sd.owner
  pub group : given.group ≡ Some sd.group
  pub dacl : given.dacl ≡ Some sd.dacl
  pub sacl : list_or_empty given.sacl ≡ sd.sacl
