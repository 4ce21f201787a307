-- What the names in a request represent.
use Rattle.std.specs.Prelude.{ℕ, Bool, false, Option, option_map, is_some, unwrap_or, codes, List, [], ◌∷◌}
use Rattle.std.specs.Option.{option_and_then, option_map_or}
use Rattle.ad_ids.specs.declared.guid.Guid.{Guid}
use Rattle.ad_ids.specs.declared.token.Token.{Token}
use Rattle.ad_dn.specs.declared.rdn.Rdn.{Rdn}
use Rattle.ad_dn.specs.declared.rdn.Dn.{Dn}
use Rattle.ad_dn.specs.Reading.{dn_of}
use Rattle.ad_schema_classes.specs.Names.{same_name}
use Rattle.ad_schema.specs.declared.line.SchemaRecord.{SchemaRecord}
use Rattle.ad_types.specs.TypesOf.{path_of}
use Rattle.ad_dir_model.specs.Objects.{object_at}
use Rattle.ad_dir_model.specs.Names.{found}
use Rattle.ad_dir_model.specs.Attributes.{attr_place}
use Rattle.ad_dir_model.specs.Directory.{Directory}
use Rattle.ad_dir_model.specs.Inheritance.{guid_at}
use Rattle.ad_access_dir.specs.Sight.{visible_of, matched}
use Rattle.ad_needs_rules.specs.Checks.{Check, hidden}

-- ---- names of objects

-- the parts of the name that a text encodes
abbrev pub name_in : List ℕ → Option (List Rdn)
name_in text = option_map (λ dn. dn.rdns) (dn_of text)

abbrev pub is_name : List ℕ → Bool
is_name text = is_some (name_in text)

-- a part without type and value, where there is none
abbrev pub no_rdn : Rdn
no_rdn = record { kind = []; value = [] }

abbrev pub parts_in : List ℕ → List Rdn
parts_in text = unwrap_or (name_in text) []

-- the object that has the name of the text: none where no object has it, and where the text is no name's
abbrev pub number_of_name : Directory → List ℕ → Option ℕ
number_of_name dir text = option_and_then (λ (dn : Dn). found dir dn.rdns) (dn_of text)

-- the visible object that a text names; 0, which is no object's number, where there is none
unfoldable pub object_named : Directory → Token → List ℕ → Option ℕ
object_named dir token text = visible_of dir token (parts_in text)

abbrev pub number_named : Directory → Token → List ℕ → ℕ
number_named dir token text = unwrap_or (object_named dir token text) 0

-- the text names a visible object, or else its name is told as far as it does
abbrev pub or_hidden : Directory → Token → List ℕ → Check
or_hidden dir token text = record {
  holds = is_some (object_named dir token text);
  refusal
      = hidden (matched dir token (parts_in text));
}

-- ---- names of attributes

-- nTSecurityDescriptor is no ordinary attribute, whether the schema names it or not.
abbrev pub is_descriptor : List ℕ → Bool
is_descriptor name = same_name name (codes "nTSecurityDescriptor")

-- the attribute of the name is one of the schema that passes the test
abbrev pub has_place : List SchemaRecord → (ℕ → Bool) → List ℕ → Bool
has_place schema test name = option_map_or test (attr_place schema name) false

-- ---- paths

abbrev pub class_at : Directory → ℕ → ℕ
class_at dir number = (object_at dir.objects number).class

-- that of a child class, and that of an attribute on an object of a class
abbrev pub class_path : List SchemaRecord → ℕ → List Guid
class_path schema class = guid_at schema class ∷ []

abbrev pub attr_path : List SchemaRecord → ℕ → ℕ → List Guid
attr_path schema class attr = path_of schema (record { 0 = class }) (record { 0 = attr })
