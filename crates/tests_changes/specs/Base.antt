-- A small directory for worked rows: a root, a unit with two users and a group, and two callers.
use Rattle.std.specs.Prelude.{ℕ, false, codes, Some, None, List, [], ◌∷◌}
use Rattle.ad_ids.specs.SidValue.{SidValue}
use Rattle.ad_ids.specs.Sid.{sid_bytes}
use Rattle.ad_ids.specs.declared.guid.Guid.{Guid}
use Rattle.ad_ids.specs.declared.token.Token.{Token}
use Rattle.ad_acl.specs.declared.kind.AceKind.TheVariants.{Allow}
use Rattle.ad_ldap.specs.declared.controls.Settings.{Settings}
use Rattle.ad_schema.specs.declared.line.SchemaKind.TheVariants.{Attribute, Class}
use Rattle.ad_schema.specs.declared.line.Line.{Line}
use Rattle.ad_schema.specs.declared.line.SchemaRecord.{SchemaRecord}
use Rattle.ad_sd.specs.declared.parts.Sd.{Sd}
use Rattle.ad_value.specs.Value.{as_shown}
use Rattle.ad_dir_model.specs.Object.{plain, Held, Object}
use Rattle.ad_dir_model.specs.Directory.{Directory}
use Rattle.ad_dir_model.specs.examples.Staff.{administrators, authenticated, sd_of, root_entries, inherited_entries}
use Rattle.ad_needs_rules.specs.Validated.{self_membership, validated_spn, computer}

-- ---- the schema

abbrev pub line : List ℕ → List ℕ → Line
line name text = record { name = name; value = text }

-- 16 bytes that are the same
abbrev pub guid_of : ℕ → List ℕ
guid_of b = b ∷ b ∷ b ∷ b ∷ b ∷ b ∷ b ∷ b ∷ b ∷ b ∷ b ∷ b ∷ b ∷ b ∷ b ∷ b ∷ []

abbrev pub attribute : List ℕ → List ℕ → ℕ → List Line → SchemaRecord
attribute name oid b more = record {
  kind = Attribute;
  lines = line (codes "lDAPDisplayName") name
      ∷ line (codes "attributeSyntax") oid ∷ line (codes "schemaIDGUID") (guid_of b) ∷ more;
}

-- a class without another one above it, with its naming attribute and the class that stands above its objects
abbrev pub class_of : List ℕ → ℕ → List ℕ → List ℕ → List Line → SchemaRecord
class_of name b naming superior more = record {
  kind = Class;
  lines = line (codes "lDAPDisplayName") name ∷ line (codes "schemaIDGUID") (guid_of b)
      ∷ line (codes "subClassOf") name ∷ line (codes "rDNAttID") naming ∷ line (codes "possSuperiors") superior
      ∷ more;
}

abbrev pub schema : List SchemaRecord
schema =
    attribute (codes "cn") (codes "2.5.5.12") 1 []
    ∷ attribute (codes "dc") (codes "2.5.5.12") 2 []
    ∷ attribute (codes "ou") (codes "2.5.5.12") 3 []
    ∷ attribute (codes "objectClass") (codes "2.5.5.2") 4 []
    ∷ attribute (codes "objectSid") (codes "2.5.5.17") 5 []
    ∷ attribute (codes "member") (codes "2.5.5.1") 6 (line (codes "linkID") (codes "2") ∷ [])
    ∷ attribute (codes "description") (codes "2.5.5.2") 7 []
    ∷ attribute (codes "telephoneNumber") (codes "2.5.5.2") 8 (line (codes "isSingleValued") (codes "TRUE") ∷ [])
    ∷ attribute (codes "servicePrincipalName") (codes "2.5.5.12") 9 []
    ∷ class_of (codes "domainDNS") 0x11 (codes "dc") (codes "domainDNS")
    (line (codes "mayContain") (codes "objectSid") ∷ [])
    ∷ class_of (codes "organizationalUnit") 0x12 (codes "ou") (codes "domainDNS") []
    ∷ class_of (codes "user") 0x13 (codes "cn") (codes "organizationalUnit")
    (line (codes "mustContain") (codes "objectSid") ∷ line (codes "mayContain") (codes "description")
    ∷ line (codes "mayContain") (codes "telephoneNumber") ∷ [])
    ∷ class_of (codes "group") 0x14 (codes "cn") (codes "organizationalUnit")
    (line (codes "mustContain") (codes "objectSid") ∷ line (codes "mayContain") (codes "member") ∷ [])
    ∷ record {
      kind = Class;
      lines = line (codes "lDAPDisplayName") (codes "computer") ∷ line (codes "schemaIDGUID") computer.bytes
          ∷ line (codes "subClassOf") (codes "user") ∷ line (codes "rDNAttID") (codes "cn")
          ∷ line (codes "mayContain") (codes "servicePrincipalName") ∷ [];
    }
    ∷ []

-- ---- the directory

abbrev pub of_domain : List ℕ → SidValue
of_domain numbers = record { authority = 5; sub_authorities = 21 ∷ numbers }

abbrev pub with_sid : List ℕ → List Held
with_sid numbers = record { attr = 4; values = plain (as_shown (sid_bytes (of_domain numbers))) ∷ [] } ∷ []

abbrev pub object_of_class : ℕ → ℕ → ℕ → List ℕ → List Held → Sd → Object
object_of_class number parent class name values sd
    = record { number = number; parent = parent; class = class; name = name; values = values; sd = sd }

abbrev pub default_sd : Sd
default_sd = sd_of false inherited_entries

-- whoever is authenticated may do a validated write
abbrev pub validated_sd : Guid → Sd
validated_sd right = sd_of false (record {
  kind = Allow;
  flags = 0;
  mask = 8;
  object = Some right;
  inherited
      = None;
  sid = authenticated;
} ∷ inherited_entries)

abbrev pub staff : Object
staff = object_of_class 2 1 1 (codes "staff") [] default_sd

abbrev pub club : Object
club = object_of_class 5 2 3 (codes "club") (with_sid (1 ∷ 1003 ∷ [])) (validated_sd self_membership)

abbrev pub pc1 : Object
pc1 = object_of_class 6 2 4 (codes "pc1") (with_sid (1 ∷ 1004 ∷ [])) (validated_sd validated_spn)

abbrev pub corp : Object
corp = object_of_class 1 0 0 (codes "corp") (with_sid (1 ∷ [])) (sd_of false root_entries)

abbrev pub base : Directory
base = record {
  schema = schema;
  objects =
      corp
      ∷ staff
      ∷ object_of_class 3 2 2 (codes "ann") (with_sid (1 ∷ 1001 ∷ [])) default_sd
      ∷ object_of_class 4 2 2 (codes "bob") (with_sid (1 ∷ 1002 ∷ [])) default_sd
      ∷ club
      ∷ pc1
      ∷ [];
  pending = [];
  meta = record {
    next_number = 7;
    next_rid = 1005;
    suffix = record { kind = codes "DC"; value = codes "example" }
        ∷ [];
  };
}

-- an administrator, and ann, who may read
abbrev pub caller : SidValue → List SidValue → Token
caller user groups = record {
  version = 1;
  privileges = 0;
  user = user;
  owner = user;
  primary = user;
  groups
      = groups;
  deny_only = [];
  restricting = [];
}

abbrev pub admin : Token
admin = caller administrators []

abbrev pub ann : Token
ann = caller (of_domain (1 ∷ 1001 ∷ [])) (authenticated ∷ [])

abbrev pub plain_settings : Settings
plain_settings = record { sd_flags = 15; tree = false }
