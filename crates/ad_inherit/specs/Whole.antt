-- A descriptor with what it inherits.
use Rattle.std.specs.Prelude.{Bool, not, if◌then◌else◌, List, [], ◌++◌}
use Rattle.std.specs.List.{filter, flat_map}
use Rattle.ad_ids.specs.declared.guid.Guid.{Guid}
use Rattle.ad_ids.specs.SidValue.{SidValue}
use Rattle.ad_acl.specs.Entry.{Entry}
use Rattle.ad_sd.specs.declared.parts.AceList.{AceList}
use Rattle.ad_sd.specs.declared.parts.Sd.{Sd}
use Rattle.ad_inherit.specs.Flags.{inherited, has}
use Rattle.ad_inherit.specs.Copies.{passes, copies}

abbrev pub is_explicit : Entry → Bool
is_explicit entry = not (has entry inherited)

abbrev pub explicit_entries : List Entry → List Entry
explicit_entries entries = filter is_explicit entries

-- the list without the entries that came from the parent
abbrev pub explicit_list : AceList → AceList
explicit_list list = record { protected = list.protected; entries = explicit_entries list.entries }

-- The explicit part of a descriptor is the descriptor without the entries that carry the flag of inherited ones.
unfoldable pub explicit_part : Sd → Sd
explicit_part sd = record {
  owner = sd.owner;
  group = sd.group;
  dacl = explicit_list sd.dacl;
  sacl = explicit_list sd.sacl;
}

-- the copies of the parent's passing entries, in order
abbrev pub passed : List Entry → Guid → SidValue → SidValue → List Entry
passed entries class owner group = flat_map (λ entry. copies entry class owner group) (filter passes entries)

-- what is passed stands after the explicit entries, unless the list is protected
abbrev pub whole_list : AceList → AceList → Guid → SidValue → SidValue → AceList
whole_list parent own class owner group = record {
  protected = own.protected;
  entries = explicit_entries own.entries ++ (if own.protected then [] else passed parent.entries class owner group);
}

-- The descriptor of an object of this class that has `own` as its own and `parent` as its parent's.
unfoldable pub whole : Sd → Sd → Guid → Sd
whole parent own class = record {
  owner = own.owner;
  group = own.group;
  dacl = whole_list parent.dacl own.dacl class own.owner own.group;
  sacl = whole_list parent.sacl own.sacl class own.owner own.group;
}
