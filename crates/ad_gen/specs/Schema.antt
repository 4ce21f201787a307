-- The base schema: its attributes, classes and rights, each as a record of LDIF.
use Rattle.std.specs.Prelude.{ℕ, List, [], ◌∷◌, ◌++◌, codes}
use Rattle.ad_gen.specs.Lines.{line, encoded_line}

-- a0000000-0000-4000-8000-0000000000kk in packet order; of a class it begins with c0
abbrev pub own_guid : ℕ → ℕ → List ℕ
own_guid first number = 0 ∷ 0 ∷ 0 ∷ first ∷ 0 ∷ 0 ∷ 0 ∷ 0x40 ∷ 0x80 ∷ 0 ∷ 0 ∷ 0 ∷ 0 ∷ 0 ∷ 0 ∷ number ∷ []

-- the line of a record's name, below CN=Schema or CN=Rights
unfoldable pub named : List ℕ → List ℕ → List ℕ
named name place = codes "dn: CN=" ++ (name ++ (codes ",CN=" ++ (place ++ 10 ∷ [])))

-- how the record of an attribute or a class begins
unfoldable pub begun : List ℕ → List ℕ → List ℕ
begun name class =
    named name (codes "Schema") ++ (line (codes "objectClass") class ++ line (codes "lDAPDisplayName") name)

-- an attribute: its number, its name, its syntax, and its other lines
unfoldable pub attribute : ℕ → List ℕ → List ℕ → List ℕ → List ℕ
attribute number name syntax others =
    begun name (codes "attributeSchema")
    ++ (line (codes "attributeSyntax") syntax
    ++ (encoded_line (codes "schemaIDGUID") (own_guid 0xa0 number) ++ (others ++ 10 ∷ [])))

-- a class: its GUID in packet order, its name, and its other lines
unfoldable pub class : List ℕ → List ℕ → List ℕ → List ℕ
class guid name others =
    begun name (codes "classSchema") ++ (encoded_line (codes "schemaIDGUID") guid ++ (others ++ 10 ∷ []))

-- a right: its name, its GUID, what kind of right it is (48 a property set, 256 an extended right, 8 a validated
-- write), and the class that it is for
unfoldable pub right : List ℕ → List ℕ → List ℕ → List ℕ → List ℕ
right name guid accesses applies =
    named name (codes "Rights")
    ++ (line (codes "objectClass") (codes "controlAccessRight")
    ++ (line (codes "cn") name
    ++ (line (codes "rightsGuid") guid
    ++ (line (codes "validAccesses") accesses
    ++ (line (codes "appliesTo") applies ++ 10 ∷ [])))))

-- bf967aba-0de6-11d0-a285-00aa003049e2
abbrev pub user_guid : List ℕ
user_guid = 0xba ∷ 0x7a ∷ 0x96 ∷ 0xbf ∷ 0xe6 ∷ 0x0d ∷ 0xd0 ∷ 0x11 ∷ 0xa2 ∷ 0x85 ∷ 0 ∷ 0xaa ∷ 0 ∷ 0x30 ∷ 0x49 ∷ 0xe2 ∷ []

-- bf967a86-0de6-11d0-a285-00aa003049e2
abbrev pub computer_guid : List ℕ
computer_guid = 0x86 ∷ 0x7a ∷ 0x96 ∷ 0xbf ∷ 0xe6 ∷ 0x0d ∷ 0xd0 ∷ 0x11 ∷ 0xa2 ∷ 0x85 ∷ 0 ∷ 0xaa ∷ 0 ∷ 0x30 ∷ 0x49
    ∷ 0xe2 ∷ []

-- what names and describes every object
unfoldable pub naming_attributes : List ℕ
naming_attributes =
    attribute 1 (codes "objectClass") (codes "2.5.5.2") []
    ++ (attribute 2 (codes "cn") (codes "2.5.5.12") (codes "isSingleValued: TRUE\n")
    ++ (attribute 3 (codes "ou") (codes "2.5.5.12") (codes "isSingleValued: TRUE\n")
    ++ (attribute 4 (codes "dc") (codes "2.5.5.12") (codes "isSingleValued: TRUE\n")
    ++ (attribute 5 (codes "distinguishedName") (codes "2.5.5.1") (codes "isSingleValued: TRUE\n")
    ++ attribute 6 (codes "name") (codes "2.5.5.12") (codes "isSingleValued: TRUE\n")))))

-- who an object is, and whom it has as members
unfoldable pub identity_attributes : List ℕ
identity_attributes =
    attribute 7 (codes "objectSid") (codes "2.5.5.17") (codes "isSingleValued: TRUE\n")
    ++ (attribute 8 (codes "member") (codes "2.5.5.1") (codes "linkID: 2\n")
    ++ (attribute 9 (codes "memberOf") (codes "2.5.5.1") (codes "linkID: 3\n")
    ++ (attribute 10 (codes "primaryGroupID") (codes "2.5.5.9") (codes "isSingleValued: TRUE\n")
    ++ (attribute 11 (codes "adminCount") (codes "2.5.5.9") (codes "isSingleValued: TRUE\n")
    ++ attribute 12 (codes "dSHeuristics") (codes "2.5.5.12") (codes "isSingleValued: TRUE\n")))))

-- what accounts are called, and what is said of them
unfoldable pub account_attributes : List ℕ
account_attributes =
    attribute 13 (codes "servicePrincipalName") (codes "2.5.5.12") []
    ++ (attribute 14 (codes "dNSHostName") (codes "2.5.5.12") (codes "isSingleValued: TRUE\n")
    ++ (attribute 15 (codes "unicodePwd") (codes "2.5.5.10") (codes "isSingleValued: TRUE\n")
    ++ attribute 16 (codes "description") (codes "2.5.5.12") []))

-- what is said of persons: two attributes of the set Personal, and a confidential one
unfoldable pub personal_attributes : List ℕ
personal_attributes =
    attribute 17 (codes "telephoneNumber") (codes "2.5.5.12")
    (codes "isSingleValued: TRUE\nattributeSecurityGUID:: AAAAUAAAAECAAAAAAAAAAQ==\n")
    ++ (attribute 18 (codes "streetAddress") (codes "2.5.5.12")
    (codes "isSingleValued: TRUE\nattributeSecurityGUID:: AAAAUAAAAECAAAAAAAAAAQ==\n")
    ++ attribute 19 (codes "secretCode") (codes "2.5.5.12") (codes "isSingleValued: TRUE\nsearchFlags: 128\n"))

-- the classes of what holds others
unfoldable pub outer_classes : List ℕ
outer_classes =
    class (own_guid 0xc0 1) (codes "top")
    (codes "subClassOf: top\nobjectClassCategory: 2\nrDNAttID: cn\nmustContain: objectClass\n"
    ++ (codes "mayContain: distinguishedName\nmayContain: name\nmayContain: memberOf\n"
    ++ codes "mayContain: adminCount\nmayContain: description\n"))
    ++ (class (own_guid 0xc0 2) (codes "domainDNS")
    (codes "subClassOf: top\nobjectClassCategory: 1\nrDNAttID: dc\n"
    ++ codes "defaultSecurityDescriptor: D:(A;;GA;;;SY)\nmayContain: objectSid\n")
    ++ (class (own_guid 0xc0 3) (codes "organizationalUnit")
    (codes "subClassOf: top\nobjectClassCategory: 1\nrDNAttID: ou\n"
    ++ (codes "defaultSecurityDescriptor: D:(A;;GA;;;SY)\npossSuperiors: domainDNS\n"
    ++ codes "possSuperiors: organizationalUnit\n"))
    ++ class (own_guid 0xc0 4) (codes "container")
    (codes "subClassOf: top\nobjectClassCategory: 1\nrDNAttID: cn\n"
    ++ (codes "defaultSecurityDescriptor: D:(A;;GA;;;SY)\nmayContain: dSHeuristics\n"
    ++ codes "possSuperiors: domainDNS\npossSuperiors: organizationalUnit\npossSuperiors: container\n"))))

-- the classes of principals
unfoldable pub account_classes : List ℕ
account_classes =
    class (own_guid 0xc0 5) (codes "group")
    (codes "subClassOf: top\nobjectClassCategory: 1\nrDNAttID: cn\n"
    ++ (codes "defaultSecurityDescriptor: D:(A;;GA;;;SY)\nmustContain: objectSid\nmayContain: member\n"
    ++ codes "possSuperiors: domainDNS\npossSuperiors: organizationalUnit\npossSuperiors: container\n"))
    ++ (class user_guid (codes "user")
    (codes "subClassOf: top\nobjectClassCategory: 1\nrDNAttID: cn\n"
    ++ (codes "defaultSecurityDescriptor: D:(A;;GA;;;SY)\nmustContain: objectSid\n"
    ++ (codes "mayContain: primaryGroupID\nmayContain: servicePrincipalName\nmayContain: unicodePwd\n"
    ++ (codes "mayContain: telephoneNumber\nmayContain: streetAddress\nmayContain: secretCode\n"
    ++ codes "possSuperiors: domainDNS\npossSuperiors: organizationalUnit\npossSuperiors: container\n"))))
    ++ class computer_guid (codes "computer")
    (codes "subClassOf: user\nobjectClassCategory: 1\nrDNAttID: cn\n"
    ++ (codes "defaultSecurityDescriptor: D:(A;;GA;;;SY)\nmayContain: dNSHostName\n"
    ++ codes "possSuperiors: domainDNS\npossSuperiors: organizationalUnit\npossSuperiors: container\n")))

-- the property set, and the rights to set a password
unfoldable pub password_rights : List ℕ
password_rights =
    right (codes "Personal") (codes "50000000-0000-4000-8000-000000000001") (codes "48")
    (codes "bf967aba-0de6-11d0-a285-00aa003049e2")
    ++ (right (codes "User-Change-Password") (codes "ab721a53-1e2f-11d0-9819-00aa0040529b") (codes "256")
    (codes "bf967aba-0de6-11d0-a285-00aa003049e2")
    ++ right (codes "User-Force-Change-Password") (codes "00299570-246d-11d0-a768-00aa006e0529") (codes "256")
    (codes "bf967aba-0de6-11d0-a285-00aa003049e2"))

-- what may be written where it is right
unfoldable pub validated_writes : List ℕ
validated_writes =
    right (codes "Self-Membership") (codes "bf9679c0-0de6-11d0-a285-00aa003049e2") (codes "8")
    (codes "c0000000-0000-4000-8000-000000000005")
    ++ (right (codes "Validated-SPN") (codes "f3a64788-5306-11d1-a9c5-0000f80367c1") (codes "8")
    (codes "bf967a86-0de6-11d0-a285-00aa003049e2")
    ++ right (codes "Validated-DNS-Host-Name") (codes "72e39547-7b18-11d1-adef-00c04fd8d5cd") (codes "8")
    (codes "bf967a86-0de6-11d0-a285-00aa003049e2"))

-- all attributes
unfoldable pub attributes : List ℕ
attributes = naming_attributes ++ (identity_attributes ++ (account_attributes ++ personal_attributes))

-- the whole schema
unfoldable pub schema : List ℕ
schema = attributes ++ (outer_classes ++ (account_classes ++ (password_rights ++ validated_writes)))
