-- What stands in the descriptor of an object, line by line.
use Rattle.std.specs.Prelude.{ℕ, Bool, if◌then◌else◌, List, ◌++◌, codes}
use Rattle.std.specs.List.{flat_map}
use Rattle.ad_ids.specs.SidText.{sid_text}
use Rattle.ad_acl.specs.Entry.{Entry}
use Rattle.ad_sd.specs.declared.parts.AceList.{AceList}
use Rattle.ad_sd.specs.declared.parts.Sd.{Sd}
use Rattle.ad_sddl.specs.Canonical.{rights_text}
use Rattle.ad_schema.specs.declared.line.SchemaRecord.{SchemaRecord}
use Rattle.ad_dir_model.specs.Directory.{Directory}
use Rattle.ad_dir_model.specs.Objects.{sd_at}
use Rattle.ad_dir_model.specs.Names.{name_text}
use Rattle.ad_dsacls.specs.Words.{newline, labelled, or_dash, kind_text, flags_text, origin_text, type_text}
use Rattle.ad_bytes.specs.Puts.{spaced}

-- kind, identifier, rights, object type, inherited type, flags, and whether it is inherited
unfoldable pub entry_line : List SchemaRecord → Entry → List ℕ
entry_line schema e =
    spaced (kind_text e.kind)
    ++ (spaced (sid_text e.sid)
    ++ (spaced (or_dash (rights_text e.mask))
    ++ (spaced (type_text schema e.object)
    ++ (spaced (type_text schema e.inherited)
    ++ (spaced (or_dash (flags_text e.flags))
    ++ (origin_text e.flags ++ newline))))))

abbrev pub protection_text : Bool → List ℕ
protection_text protected = if protected then codes " protected" else codes " inherits"

-- whether the list is protected, and its entries
abbrev pub list_lines : List SchemaRecord → List ℕ → AceList → List ℕ
list_lines schema label list = labelled label (protection_text list.protected) ++ flat_map (entry_line schema)
    list.entries

-- the name, owner, group, DACL and SACL
unfoldable pub lines_of : List SchemaRecord → List ℕ → Sd → List ℕ
lines_of schema name sd =
    labelled (codes "object ") name
    ++ (labelled (codes "owner ") (sid_text sd.owner)
    ++ (labelled (codes "group ") (sid_text sd.group)
    ++ (list_lines schema (codes "dacl") sd.dacl
    ++ list_lines schema (codes "sacl") sd.sacl)))

-- those of an object
abbrev pub listing : Directory → ℕ → List ℕ
listing dir number = lines_of dir.schema (name_text dir number) (sd_at dir.objects number)
