-- The GUID of a class, as the schema's tables have it.
use Rattle.std.proofs.Common.{◌≡◌, ◌∙◌, ℕ, zero, suc, ◌+◌, List, [], ◌∷◌, map, Option, Some, refl, sym, ap}
use Rattle.std.specs.Prelude.{slice_get, option_map, unwrap_or}
use Rattle.ad_ids.specs.declared.guid.Guid.{Guid}
use Rattle.ad_schema.specs.declared.line.Line.{Line}
use Rattle.ad_schema.specs.declared.line.SchemaKind.TheVariants.{Attribute, Class}
use Rattle.ad_schema.specs.declared.line.SchemaRecord.{SchemaRecord}
use Rattle.ad_schema.specs.declared.info.ClassInfo.{ClassInfo}
use Rattle.ad_schema.specs.Attributes.{no_guid, names_of, lines_of}
use Rattle.ad_schema.specs.Classes.{classes_of, class_info, class_infos, class_guid, class_guids, superclasses}
use Rattle.ad_schema.specs.Classes.{own_namings, cn_of}
use Rattle.ad_dir_model.specs.Inheritance.{guid_at}

guids : (above own : List (Option ℕ)) (cn n : ℕ) (lines : List (List Line)) (i : ℕ) → slice_get (map class_guid lines)
    i ≡ option_map (λ (info : ClassInfo). info.guid) (slice_get (class_infos above own cn n lines) i)
unfolding class_infos class_info
guids above own cn n [] i = refl
guids above own cn n (l ∷ lines) zero = refl
guids above own cn n (l ∷ lines) (suc i) = guids above own cn (n + 1) lines i

pub guid_is : (schema : List SchemaRecord) (class : ℕ) → guid_at schema class
    ≡ unwrap_or (option_map (λ (info : ClassInfo). info.guid) (slice_get (classes_of schema) class)) no_guid
unfolding guid_at class_guids classes_of
guid_is schema class = ap (λ (found : Option Guid). unwrap_or found no_guid)
    (guids (superclasses schema) (own_namings schema) (cn_of (names_of Attribute schema)) 0 (lines_of Class schema)
    class)

-- of a class that the schema has
pub guid_there : (schema : List SchemaRecord) (class : ℕ) (info : ClassInfo) → slice_get (classes_of schema) class
    ≡ Some info → info.guid ≡ guid_at schema class
guid_there schema class info is = sym (guid_is schema class
    ∙ ap (λ (found : Option ClassInfo). unwrap_or (option_map (λ (i : ClassInfo). i.guid) found) no_guid) is)
