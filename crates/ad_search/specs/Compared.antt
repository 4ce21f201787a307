-- What a compare tried: the right to read its attribute.
use Rattle.std.specs.Prelude.{ℕ, ◌^◌, Bool, false, if◌then◌else◌, codes, Option, slice_get, List, [], ◌∷◌}
use Rattle.std.specs.Option.{option_map_or, option_and_then}
use Rattle.ad_ids.specs.declared.token.Token.{Token}
use Rattle.ad_acl.specs.Mask.{read_property}
use Rattle.ad_dn.specs.Reading.{dn_of}
use Rattle.ad_schema_classes.specs.Names.{same_name}
use Rattle.ad_schema.specs.declared.info.AttrId.{AttrId}
use Rattle.ad_schema.specs.Attributes.{attrs_of, attr_named}
use Rattle.ad_types.specs.TypesOf.{path_of}
use Rattle.ad_ldap.specs.declared.requests.Compare.{Compare}
use Rattle.ad_dir_model.specs.Objects.{object_at}
use Rattle.ad_dir_model.specs.Directory.{Directory}
use Rattle.ad_access_dir.specs.Sight.{visible_of}
use Rattle.ad_types.specs.Tried.{TriedValue}
use Rattle.ad_entries.specs.Seen.{is_readable}

-- the object that is visible and has the name
unfoldable pub number_compared : Directory → Token → Compare → Option ℕ
number_compared dir token request = option_and_then (λ dn. visible_of dir token dn.rdns) (dn_of request.dn)

abbrev pub may_read : Directory → Token → ℕ → AttrId → Bool
may_read dir token number attr = option_map_or (is_readable dir token number attr.0)
    (slice_get (attrs_of dir.schema) attr.0) false

-- The right to read is told, of a confidential attribute too, and a success where the attribute may be read.
abbrev pub compared_on : Directory → Token → ℕ → AttrId → TriedValue
compared_on dir token number attr = record {
  object = number;
  right = 2 ^ read_property;
  path = path_of dir.schema (record { 0 = (object_at dir.objects number).class }) attr;
  success = may_read dir token number attr;
}

abbrev pub compared_attr : Directory → Token → ℕ → Option AttrId → List TriedValue
compared_attr dir token number attr = option_map_or (λ a. compared_on dir token number a ∷ []) attr []

-- What the compare tried: nothing where the name can't be read, where no object of the name is visible, or where the
-- attribute is unknown or the descriptor.
unfoldable pub compared_of : Directory → Token → Compare → List TriedValue
compared_of dir token request =
    if same_name request.attr (codes "nTSecurityDescriptor") then []
    else option_map_or (λ number. compared_attr dir token number (attr_named dir.schema request.attr))
    (number_compared dir token request) []
