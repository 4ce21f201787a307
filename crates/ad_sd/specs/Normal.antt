-- The normal bytes of a descriptor: one encoding for each.
use Rattle.std.specs.Prelude.{◌≡◌, ℕ, ◌^◌, ◌<◌, Bool, true, false, List, ◌∷◌, ◌++◌, length}
use Rattle.std.specs.List.{flat_map, AllByRecursion}
use Rattle.ad_bytes.specs.Numbers.{be_bytes}
use Rattle.ad_ids.specs.Sid.{IsSid, sid_bytes}
use Rattle.ad_acl.specs.Entry.{Entry}
use Rattle.ad_acl.specs.Writing.{IsEntry, entry_bytes}
use Rattle.ad_sd.specs.declared.parts.Sd.{Sd}

-- 1 where the DACL is protected, and 2 where the SACL is
abbrev pub marks_of : Bool → Bool → ℕ
marks_of false false = 0
marks_of true false = 1
marks_of false true = 2
marks_of true true = 3

-- the number of entries in eight bytes, the most significant first, and the entries as they are written
unfoldable pub entries_bytes : List Entry → List ℕ
entries_bytes entries = be_bytes 8 (length entries) ++ flat_map entry_bytes entries

-- the marks, the owner, the group, the DACL and the SACL
unfoldable pub normal_bytes : Sd → List ℕ
normal_bytes sd = marks_of sd.dacl.protected sd.sacl.protected
    ∷ (sid_bytes sd.owner ++ (sid_bytes sd.group ++ (entries_bytes sd.dacl.entries
    ++ entries_bytes sd.sacl.entries)))

-- entries whose fields have their ranges, no more than eight bytes can count
pub record AreEntries (entries : List Entry) : Type 0 where
  pub count : length entries < 2 ^ 64
  pub each : AllByRecursion IsEntry entries

-- a descriptor whose fields have their ranges
pub record IsSd (sd : Sd) : Type 0 where
  pub owner : IsSid sd.owner
  pub group : IsSid sd.group
  pub dacl : AreEntries sd.dacl.entries
  pub sacl : AreEntries sd.sacl.entries

-- a descriptor has the one encoding
abbrev pub SpellsNormal : Sd → List ℕ → Type 0
SpellsNormal sd text = IsSd sd × (text ≡ normal_bytes sd)
