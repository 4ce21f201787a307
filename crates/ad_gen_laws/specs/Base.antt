-- The base schema, as records.
use Rattle.std.specs.Prelude.{ℕ, List, [], ◌∷◌, ◌++◌, codes, map}
use Rattle.ad_dn.specs.declared.rdn.Rdn.{Rdn}
use Rattle.ad_schema.specs.declared.line.Line.{Line}
use Rattle.ad_schema.specs.declared.line.SchemaKind.TheVariants.{Attribute, Class, Right}
use Rattle.ad_schema.specs.declared.line.SchemaRecord.{SchemaRecord}
use Rattle.ad_gen_laws.specs.Plain.{Plain, line, rdn, defined}

-- ---- what a record of each kind has

-- the 16 bytes of 000000kk-.., as a0000000-0000-4000-8000-000000000001 for 0xa0 and 1
abbrev pub guid : ℕ → ℕ → List ℕ
guid first number = 0 ∷ 0 ∷ 0 ∷ first ∷ 0 ∷ 0 ∷ 0 ∷ 0x40 ∷ 0x80 ∷ 0 ∷ 0 ∷ 0 ∷ 0 ∷ 0 ∷ 0 ∷ number ∷ []

-- the name of a record of the schema, below CN=Schema or CN=Rights
abbrev pub named : List ℕ → List ℕ → List Rdn
named name place = rdn (codes "CN") name ∷ rdn (codes "CN") place ∷ []

abbrev pub attribute : ℕ → List ℕ → List ℕ → List Line → Plain
attribute number name syntax others = record {
  rdns = named name (codes "Schema");
  lines = line (codes "objectClass") (codes "attributeSchema")
      ∷ line (codes "lDAPDisplayName") name
      ∷ line (codes "attributeSyntax") syntax
      ∷ line (codes "schemaIDGUID") (guid 0xa0 number)
      ∷ others;
}

abbrev pub class : List ℕ → List ℕ → List Line → Plain
class bytes name others = record {
  rdns = named name (codes "Schema");
  lines = line (codes "objectClass") (codes "classSchema")
      ∷ line (codes "lDAPDisplayName") name
      ∷ line (codes "schemaIDGUID") bytes
      ∷ others;
}

abbrev pub right : List ℕ → List ℕ → List ℕ → List ℕ → Plain
right name text accesses applies = record {
  rdns = named name (codes "Rights");
  lines = line (codes "objectClass") (codes "controlAccessRight")
      ∷ line (codes "cn") name
      ∷ line (codes "rightsGuid") text
      ∷ line (codes "validAccesses") accesses
      ∷ line (codes "appliesTo") applies
      ∷ [];
}

abbrev pub single : Line
single = line (codes "isSingleValued") (codes "TRUE")

-- 50000000-0000-4000-8000-000000000001, the property set Personal
abbrev pub in_personal : Line
in_personal = line (codes "attributeSecurityGUID") (guid 0x50 1)

-- ---- the attributes

unfoldable pub attributes : List Plain
attributes =
    attribute 1 (codes "objectClass") (codes "2.5.5.2") []
    ∷ attribute 2 (codes "cn") (codes "2.5.5.12") (single ∷ [])
    ∷ attribute 3 (codes "ou") (codes "2.5.5.12") (single ∷ [])
    ∷ attribute 4 (codes "dc") (codes "2.5.5.12") (single ∷ [])
    ∷ attribute 5 (codes "distinguishedName") (codes "2.5.5.1") (single ∷ [])
    ∷ attribute 6 (codes "name") (codes "2.5.5.12") (single ∷ [])
    ∷ attribute 7 (codes "objectSid") (codes "2.5.5.17") (single ∷ [])
    ∷ attribute 8 (codes "member") (codes "2.5.5.1") (line (codes "linkID") (codes "2") ∷ [])
    ∷ attribute 9 (codes "memberOf") (codes "2.5.5.1") (line (codes "linkID") (codes "3") ∷ [])
    ∷ attribute 10 (codes "primaryGroupID") (codes "2.5.5.9") (single ∷ [])
    ∷ attribute 11 (codes "adminCount") (codes "2.5.5.9") (single ∷ [])
    ∷ attribute 12 (codes "dSHeuristics") (codes "2.5.5.12") (single ∷ [])
    ∷ attribute 13 (codes "servicePrincipalName") (codes "2.5.5.12") []
    ∷ attribute 14 (codes "dNSHostName") (codes "2.5.5.12") (single ∷ [])
    ∷ attribute 15 (codes "unicodePwd") (codes "2.5.5.10") (single ∷ [])
    ∷ attribute 16 (codes "description") (codes "2.5.5.12") []
    ∷ attribute 17 (codes "telephoneNumber") (codes "2.5.5.12") (single ∷ in_personal ∷ [])
    ∷ attribute 18 (codes "streetAddress") (codes "2.5.5.12") (single ∷ in_personal ∷ [])
    ∷ attribute 19 (codes "secretCode") (codes "2.5.5.12") (single ∷ line (codes "searchFlags") (codes "128") ∷ [])
    ∷ []

-- ---- the classes

-- with a default descriptor, a category and a naming attribute
abbrev pub below : List ℕ → List ℕ → List Line
below super naming =
    line (codes "subClassOf") super
    ∷ line (codes "objectClassCategory") (codes "1")
    ∷ line (codes "rDNAttID") naming
    ∷ line (codes "defaultSecurityDescriptor") (codes "D:(A;;GA;;;SY)")
    ∷ []

abbrev pub must : List ℕ → Line
must name = line (codes "mustContain") name

abbrev pub may : List ℕ → Line
may name = line (codes "mayContain") name

abbrev pub superior : List ℕ → Line
superior name = line (codes "possSuperiors") name

-- below a domain, a unit or a container
abbrev pub in_containers : List Line
in_containers = superior (codes "domainDNS") ∷ superior (codes "organizationalUnit") ∷ superior (codes "container") ∷ []

-- bf967aba-0de6-11d0-a285-00aa003049e2
abbrev pub user_guid : List ℕ
user_guid = 0xba ∷ 0x7a ∷ 0x96 ∷ 0xbf ∷ 0xe6 ∷ 0x0d ∷ 0xd0 ∷ 0x11 ∷ 0xa2 ∷ 0x85 ∷ 0 ∷ 0xaa ∷ 0 ∷ 0x30 ∷ 0x49 ∷ 0xe2 ∷ []

-- bf967a86-0de6-11d0-a285-00aa003049e2
abbrev pub computer_guid : List ℕ
computer_guid = 0x86 ∷ 0x7a ∷ 0x96 ∷ 0xbf ∷ 0xe6 ∷ 0x0d ∷ 0xd0 ∷ 0x11 ∷ 0xa2 ∷ 0x85 ∷ 0 ∷ 0xaa ∷ 0 ∷ 0x30 ∷ 0x49
    ∷ 0xe2 ∷ []

unfoldable pub classes : List Plain
classes =
    class (guid 0xc0 1) (codes "top")
    (line (codes "subClassOf") (codes "top")
    ∷ line (codes "objectClassCategory") (codes "2")
    ∷ line (codes "rDNAttID") (codes "cn")
    ∷ must (codes "objectClass")
    ∷ may (codes "distinguishedName")
    ∷ may (codes "name")
    ∷ may (codes "memberOf")
    ∷ may (codes "adminCount")
    ∷ may (codes "description")
    ∷ [])
    ∷ class (guid 0xc0 2) (codes "domainDNS") (below (codes "top") (codes "dc") ++ may (codes "objectSid") ∷ [])
    ∷ class (guid 0xc0 3) (codes "organizationalUnit")
    (below (codes "top") (codes "ou") ++ superior (codes "domainDNS") ∷ superior (codes "organizationalUnit") ∷ [])
    ∷ class (guid 0xc0 4) (codes "container") (below (codes "top") (codes "cn") ++ may (codes "dSHeuristics")
    ∷ in_containers)
    ∷ class (guid 0xc0 5) (codes "group") (below (codes "top") (codes "cn") ++ must (codes "objectSid")
    ∷ may (codes "member") ∷ in_containers)
    ∷ class user_guid (codes "user")
    (below (codes "top") (codes "cn")
    ++ must (codes "objectSid")
    ∷ may (codes "primaryGroupID")
    ∷ may (codes "servicePrincipalName")
    ∷ may (codes "unicodePwd")
    ∷ may (codes "telephoneNumber")
    ∷ may (codes "streetAddress")
    ∷ may (codes "secretCode")
    ∷ in_containers)
    ∷ class computer_guid (codes "computer") (below (codes "user") (codes "cn") ++ may (codes "dNSHostName")
    ∷ in_containers)
    ∷ []

-- ---- the rights

abbrev pub of_users : List ℕ
of_users = codes "bf967aba-0de6-11d0-a285-00aa003049e2"

abbrev pub of_computers : List ℕ
of_computers = codes "bf967a86-0de6-11d0-a285-00aa003049e2"

unfoldable pub rights : List Plain
rights =
    right (codes "Personal") (codes "50000000-0000-4000-8000-000000000001") (codes "48") of_users
    ∷ right (codes "User-Change-Password") (codes "ab721a53-1e2f-11d0-9819-00aa0040529b") (codes "256") of_users
    ∷ right (codes "User-Force-Change-Password") (codes "00299570-246d-11d0-a768-00aa006e0529") (codes "256") of_users
    ∷ right (codes "Self-Membership") (codes "bf9679c0-0de6-11d0-a285-00aa003049e2") (codes "8")
    (codes "c0000000-0000-4000-8000-000000000005")
    ∷ right (codes "Validated-SPN") (codes "f3a64788-5306-11d1-a9c5-0000f80367c1") (codes "8") of_computers
    ∷ right (codes "Validated-DNS-Host-Name") (codes "72e39547-7b18-11d1-adef-00c04fd8d5cd") (codes "8") of_computers
    ∷ []

unfoldable pub base : List Plain
base = attributes ++ (classes ++ rights)

-- as a schema
unfoldable pub base_schema : List SchemaRecord
base_schema = map (defined Attribute) attributes ++ (map (defined Class) classes ++ map (defined Right) rights)
