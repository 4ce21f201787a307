-- The objects of the sample, each as a record of LDIF: a domain with a few containers and the administrators, and
-- so many organizational units, each with ten users.
use Rattle.std.specs.Prelude.{ℕ, zero, suc, ◌+◌, ◌*◌, List, [], ◌∷◌, ◌++◌, codes, decimal}
use Rattle.ad_gen.specs.Lines.{encoded_line}
use Rattle.ad_gen.specs.Descriptor.{descriptor_bytes}

-- The domain: administrators (BA) may do everything, and authenticated users (AU) may read, here and below.
abbrev pub domain_descriptor : List ℕ
domain_descriptor = codes "O:BAG:BAD:(A;CI;GA;;;BA)(A;CI;RPLCLORC;;;AU)"

-- What protected objects get: administrators may do everything, and nothing is inherited.
abbrev pub protected_descriptor : List ℕ
protected_descriptor = codes "O:BAG:BAD:P(A;;GA;;;BA)"

-- the line of a descriptor, which ends a record
unfoldable pub descriptor_line : List ℕ → List ℕ
descriptor_line text = encoded_line (codes "nTSecurityDescriptor") (descriptor_bytes text) ++ 10 ∷ []

unfoldable pub domain : List ℕ
domain = codes "dn: DC=sample\nobjectClass: domainDNS\nobjectSid: S-1-5-21-1-2-3\n" ++ descriptor_line domain_descriptor

unfoldable pub containers : List ℕ
containers =
    codes "dn: CN=System,DC=sample\nobjectClass: container\n\ndn: CN=AdminSDHolder,CN=System,DC=sample\nobjectClass: container\n"
    ++ descriptor_line protected_descriptor

abbrev pub administrators : List ℕ
administrators = codes "dn: CN=Administrators,DC=sample\nobjectClass: group\nobjectSid: S-1-5-32-544\nmember: CN=u1-1,OU=o1,DC=sample\n\n"

-- the j-th user of the unit i + 1: 10 i + j users stand up to it, and the first has 1001 as its last sub-authority
unfoldable pub user : ℕ → ℕ → List ℕ
user i j =
    codes "dn: CN=u" ++ (decimal (i + 1) ++ (codes "-" ++ (decimal j ++ (codes ",OU=o" ++ (decimal (i + 1)
    ++ (codes ",DC=sample\nobjectClass: user\nobjectSid: S-1-5-21-1-2-3-"
    ++ (decimal (1000 + 10 * i + j) ++ codes "\n\n")))))))

-- the first so many users of the unit i + 1
unfoldable pub users : ℕ → ℕ → List ℕ
users i zero = []
users i (suc j) = users i j ++ user i (suc j)

-- the unit i + 1 by itself
unfoldable pub unit : ℕ → List ℕ
unit i = codes "dn: OU=o" ++ (decimal (i + 1) ++ codes ",DC=sample\nobjectClass: organizationalUnit\n\n")

abbrev pub users_of_unit : ℕ
users_of_unit = 10

-- the most units of a sample
abbrev pub max_units : ℕ
max_units = 1000

-- the first so many units, each before its users
unfoldable pub units : ℕ → List ℕ
units zero = []
units (suc i) = units i ++ (unit i ++ users i users_of_unit)
