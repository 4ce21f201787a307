-- What the sample's two messages say, and the descriptors of its objects.
use Rattle.std.specs.Prelude.{ℕ, true, false, List, [], ◌∷◌, ◌++◌, codes, None, Some}
use Rattle.ad_ids.specs.SidValue.{SidValue}
use Rattle.ad_acl.specs.Entry.{Entry}
use Rattle.ad_acl.specs.declared.kind.AceKind.TheVariants.{Allow}
use Rattle.ad_sd.specs.declared.parts.Sd.{Sd}
use Rattle.ad_sd.specs.declared.parts.SdParts.{SdParts}
use Rattle.ad_ldap.specs.FilterValue.{Equal}
use Rattle.ad_ldap.specs.MessageValue.{MessageValue, SearchOf, ModifyOf}
use Rattle.ad_ldap.specs.Settings.{sd_flags}
use Rattle.ad_gen.specs.Descriptor.{descriptor_bytes}
use Rattle.ad_gen.specs.Frames.{builtin_administrators, well_known}
use Rattle.ad_gen.specs.Messages.{wider_list}

-- ---- descriptors

abbrev pub allows : ℕ → ℕ → SidValue → Entry
allows flags mask sid = record { kind = Allow; flags = flags; mask = mask; object = None; inherited = None; sid = sid }

-- here and below, the administrators may do everything (GA), and authenticated users (S-1-5-11) read and list (RP LC
-- LO RC)
abbrev pub domain_entries : List Entry
domain_entries = allows 2 0x10000000 builtin_administrators ∷ allows 2 0x20094 (well_known 5 11) ∷ []

abbrev pub domain_sd : Sd
domain_sd = record {
  owner = builtin_administrators;
  group = builtin_administrators;
  dacl = record { protected = false; entries = domain_entries };
  sacl = record { protected = false; entries = [] };
}

-- protected; the administrators may do everything
abbrev pub protected_sd : Sd
protected_sd = record {
  owner = builtin_administrators;
  group = builtin_administrators;
  dacl = record { protected = true; entries = allows 0 0x10000000 builtin_administrators ∷ [] };
  sacl = record { protected = false; entries = [] };
}

-- The DACL alone: after the domain's two entries, restricted callers (S-1-5-12) may read and write
-- properties (RP WP).
abbrev pub wider : SdParts
wider = record {
  owner = None;
  group = None;
  dacl = Some (record { protected = false; entries = domain_entries ++ allows 2 0x30 (well_known 5 12) ∷ [] });
  sacl = None;
}

-- ---- messages

-- Message 1 replaces (2) the domain's descriptor. A critical control says which parts of it: its value is a sequence
-- of the number 4.
abbrev pub change : MessageValue
change = record {
  id = 1;
  op = ModifyOf (record {
    dn = codes "DC=sample";
    items = record { op = 2; attr = codes "nTSecurityDescriptor"; values = descriptor_bytes wider_list ∷ [] } ∷ [];
  });
  controls = record { oid = sd_flags; critical = true; value = Some (0x30 ∷ 3 ∷ 2 ∷ 1 ∷ 4 ∷ []) } ∷ [];
}

-- Message 2 searches the whole tree (2) below the domain for users, without a limit of entries (0), and asks for
-- their cn.
abbrev pub search : MessageValue
search = record {
  id = 2;
  op = SearchOf (record {
    base = codes "DC=sample";
    scope = 2;
    size = 0;
    types_only = false;
    filter = Equal (codes "objectClass") (codes "user");
    attrs = codes "cn" ∷ [];
  });
  controls = [];
}
