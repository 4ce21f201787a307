-- The password, the one attribute that is set by an extended right: which attribute it is, and the rights that set it.
use Rattle.std.specs.Prelude.{ℕ, Bool, codes, List, [], ◌∷◌}
use Rattle.ad_ids.specs.declared.guid.Guid.{Guid}
use Rattle.ad_schema_classes.specs.Names.{same_name}

abbrev pub is_password : List ℕ → Bool
is_password name = same_name name (codes "unicodePwd")

-- User-Force-Change-Password, 00299570-246d-11d0-a768-00aa006e0529
abbrev pub force_change : Guid
force_change = record {
  bytes = 0x70 ∷ 0x95 ∷ 0x29 ∷ 0x00 ∷ 0x6d ∷ 0x24 ∷ 0xd0 ∷ 0x11 ∷ 0xa7 ∷ 0x68 ∷ 0x00 ∷ 0xaa
      ∷ 0x00 ∷ 0x6e ∷ 0x05 ∷ 0x29 ∷ [];
}

-- User-Change-Password, ab721a53-1e2f-11d0-9819-00aa0040529b
abbrev pub change : Guid
change = record {
  bytes = 0x53 ∷ 0x1a ∷ 0x72 ∷ 0xab ∷ 0x2f ∷ 0x1e ∷ 0xd0 ∷ 0x11 ∷ 0x98 ∷ 0x19 ∷ 0x00 ∷ 0xaa ∷ 0x00
      ∷ 0x40 ∷ 0x52 ∷ 0x9b ∷ [];
}
