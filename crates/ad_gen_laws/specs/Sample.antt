-- The directory of the sample, as records.
use Rattle.std.specs.Prelude.{◌≡◌, true, Ok, ℕ, zero, suc, ◌+◌, ◌*◌, List, [], ◌∷◌, ◌++◌, codes, decimal, map, filter}
use Rattle.ad_dn.specs.declared.rdn.Rdn.{Rdn}
use Rattle.ad_schema.specs.Classes.{naming_of}
use Rattle.ad_dir_model.specs.Attributes.{attr_name}
use Rattle.ad_load_objects.specs.Objects.{is_object, class_of, is_named_by}
use Rattle.ad_load_records.specs.Records.{Record}
use Rattle.ad_gen.specs.Descriptor.{descriptor_bytes}
use Rattle.ad_gen.specs.Objects.{domain_descriptor, protected_descriptor}
use Rattle.ad_gen_laws.specs.Plain.{Plain, line, rdn, fields_from}
use Rattle.ad_gen_laws.specs.Base.{base, base_schema}

-- ---- units and users

abbrev pub root_rdns : List Rdn
root_rdns = rdn (codes "DC") (codes "sample") ∷ []

abbrev pub unit_name : ℕ → List ℕ
unit_name i = codes "o" ++ decimal (i + 1)

abbrev pub unit_rdns : ℕ → List Rdn
unit_rdns i = rdn (codes "OU") (unit_name i) ∷ root_rdns

-- the unit i + 1
abbrev pub unit : ℕ → Plain
unit i = record { rdns = unit_rdns i; lines = line (codes "objectClass") (codes "organizationalUnit") ∷ [] }

abbrev pub user_name : ℕ → ℕ → List ℕ
user_name i j = codes "u" ++ (decimal (i + 1) ++ (codes "-" ++ decimal j))

abbrev pub user_sid_text : ℕ → ℕ → List ℕ
user_sid_text i j = codes "S-1-5-21-1-2-3-" ++ decimal (1000 + 10 * i + j)

-- its j-th user
abbrev pub user : ℕ → ℕ → Plain
user i j = record {
  rdns = rdn (codes "CN") (user_name i j) ∷ unit_rdns i;
  lines = line (codes "objectClass") (codes "user") ∷ line (codes "objectSid") (user_sid_text i j) ∷ [];
}

unfoldable pub users : ℕ → ℕ → List Plain
users i zero = []
users i (suc j) = users i j ++ user i (suc j) ∷ []

unfoldable pub units : ℕ → List Plain
units zero = []
units (suc i) = units i ++ unit i ∷ users i 10

-- ---- the domain, its containers and the administrators

abbrev pub domain : Plain
domain = record {
  rdns = root_rdns;
  lines = line (codes "objectClass") (codes "domainDNS")
      ∷ line (codes "objectSid") (codes "S-1-5-21-1-2-3")
      ∷ line (codes "nTSecurityDescriptor") (descriptor_bytes domain_descriptor)
      ∷ [];
}

abbrev pub system_rdns : List Rdn
system_rdns = rdn (codes "CN") (codes "System") ∷ root_rdns

abbrev pub system : Plain
system = record { rdns = system_rdns; lines = line (codes "objectClass") (codes "container") ∷ [] }

abbrev pub sd_holder : Plain
sd_holder = record {
  rdns = rdn (codes "CN") (codes "AdminSDHolder") ∷ system_rdns;
  lines = line (codes "objectClass") (codes "container")
      ∷ line (codes "nTSecurityDescriptor") (descriptor_bytes protected_descriptor)
      ∷ [];
}

-- their one member is the first user of the first unit
abbrev pub administrators : Plain
administrators = record {
  rdns = rdn (codes "CN") (codes "Administrators") ∷ root_rdns;
  lines = line (codes "objectClass") (codes "group")
      ∷ line (codes "objectSid") (codes "S-1-5-32-544")
      ∷ line (codes "member") (codes "CN=u1-1,OU=o1,DC=sample")
      ∷ [];
}

abbrev pub fixed : List Plain
fixed = domain ∷ system ∷ sd_holder ∷ administrators ∷ []

-- all objects, and all records
abbrev pub objects : ℕ → List Plain
objects n = fixed ++ units n

abbrev pub plains : ℕ → List Plain
plains n = base ++ objects n

-- ---- the objects in the order of their numbers, from 1 on: by the number of parts of their names, and then as they
-- stand

unfoldable pub units_alone : ℕ → List Plain
units_alone zero = []
units_alone (suc i) = units_alone i ++ unit i ∷ []

unfoldable pub all_users : ℕ → List Plain
all_users zero = []
all_users (suc i) = all_users i ++ users i 10

abbrev pub ordered : ℕ → List Plain
ordered n = domain ∷ system ∷ administrators ∷ (units_alone n ++ sd_holder ∷ all_users n)

abbrev pub rdns_of : Plain → List Rdn
rdns_of p = p.rdns

-- the names of the objects among records
abbrev pub names_of : List Record → List (List Rdn)
names_of records = map (λ r. r.rdns) (filter is_object records)

-- An object has this class, by the lines of its record, wherever that stands; and its name begins with the class's
-- naming attribute.
pub record IsOfClass (class : ℕ) (p : Plain) : Type 0 where
  pub class_is : (line k : ℕ) → class_of base_schema line (fields_from k p.lines) ≡ Ok (record { 0 = class })
  pub naming : is_named_by (attr_name base_schema (naming_of base_schema class)) p.rdns ≡ true
