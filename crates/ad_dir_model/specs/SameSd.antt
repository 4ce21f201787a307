-- Whether two descriptors are equal, part by part.
use Rattle.std.specs.Prelude.{Bool, true, false, ◌&&◌, ◌==◌, Option, None, Some, List, [], ◌∷◌}
use Rattle.std.specs.Str.{bytes_eq}
use Rattle.ad_ids.specs.SidValue.{same_sid}
use Rattle.ad_ids.specs.declared.guid.Guid.{Guid}
use Rattle.ad_acl.specs.declared.kind.AceKind.{AceKind}
use Rattle.ad_acl.specs.declared.kind.AceKind.TheVariants.{Allow, Deny, Audit}
use Rattle.ad_acl.specs.Entry.{Entry}
use Rattle.ad_sd.specs.declared.parts.AceList.{AceList}
use Rattle.ad_sd.specs.declared.parts.Sd.{Sd}

abbrev pub same_kind : AceKind → AceKind → Bool
same_kind Allow Allow = true
same_kind Deny Deny = true
same_kind Audit Audit = true
same_kind _ _ = false

abbrev pub same_type : Option Guid → Option Guid → Bool
same_type None None = true
same_type (Some a) (Some b) = bytes_eq a.bytes b.bytes
same_type _ _ = false

abbrev pub same_mark : Bool → Bool → Bool
same_mark true true = true
same_mark false false = true
same_mark _ _ = false

abbrev pub same_entry : Entry → Entry → Bool
same_entry a b =
    same_kind a.kind b.kind && (a.flags == b.flags && (a.mask == b.mask
    && (same_type a.object b.object && (same_type a.inherited b.inherited && same_sid a.sid b.sid))))

abbrev pub same_entries : List Entry → List Entry → Bool
same_entries [] [] = true
same_entries (a ∷ as') (b ∷ bs) = same_entry a b && same_entries as' bs
same_entries _ _ = false

abbrev pub same_list : AceList → AceList → Bool
same_list a b = same_mark a.protected b.protected && same_entries a.entries b.entries

unfoldable pub same_sd : Sd → Sd → Bool
same_sd a b = same_sid a.owner b.owner && (same_sid a.group b.group
    && (same_list a.dacl b.dacl && same_list a.sacl b.sacl))
