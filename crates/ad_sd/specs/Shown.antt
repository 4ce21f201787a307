-- The parts of a descriptor that are asked for.
use Rattle.std.specs.Prelude.{ℕ, if◌then◌else◌, Bool, Option, Some, None}
use Rattle.ad_acl.specs.Entry.{says}
use Rattle.ad_sd.specs.declared.parts.Sd.{Sd}
use Rattle.ad_sd.specs.declared.parts.SdParts.{SdParts}

abbrev pub asked : {A : Type 0} → Bool → A → Option A
asked wanted x = if wanted then Some x else None

-- 1 the owner, 2 the group, 4 the DACL, 8 the SACL
abbrev pub parts_shown : Sd → ℕ → SdParts
parts_shown sd parts = record {
  owner = asked (says parts 1) sd.owner;
  group = asked (says parts 2) sd.group;
  dacl = asked (says parts 4) sd.dacl;
  sacl = asked (says parts 8) sd.sacl;
}
