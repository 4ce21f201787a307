-- The sample's objects with their numbers, values and links, before their descriptors are computed.
use Rattle.std.specs.Prelude.{ℕ, zero, suc, ◌+◌, ◌*◌, false, List, [], ◌∷◌, ◌++◌, codes}
use Rattle.ad_ids.specs.SidValue.{SidValue}
use Rattle.ad_ids.specs.Sid.{sid_bytes}
use Rattle.ad_sd.specs.declared.parts.Sd.{Sd}
use Rattle.ad_value.specs.Value.{as_shown}
use Rattle.ad_dir_model.specs.Object.{Held, Object, plain, link}
use Rattle.ad_gen.specs.Frames.{in_domain, builtin_administrators, well_known}
use Rattle.ad_gen_laws.specs.Sample.{unit_name, user_name}
use Rattle.ad_gen_laws.specs.Sent.{allows, domain_sd, protected_sd}
use Rattle.ad_gen_laws.specs.Drafts.{domain_sid}

-- objectSid (6)
abbrev pub held_sid : SidValue → Held
held_sid sid = record { attr = 6; values = plain (as_shown (sid_bytes sid)) ∷ [] }

-- what an object without a descriptor of its own gets by its class: the system (S-1-5-18) may do everything
abbrev pub default_sd : Sd
default_sd = record {
  owner = builtin_administrators;
  group = builtin_administrators;
  dacl = record { protected = false; entries = allows 0 0x10000000 (well_known 5 18) ∷ [] };
  sacl = record { protected = false; entries = [] };
}

abbrev pub domain_object : Object
domain_object = record {
  number = 1;
  parent = 0;
  class = 1;
  name = codes "sample";
  values = held_sid domain_sid
      ∷ [];
  sd = domain_sd;
}

abbrev pub system_object : Object
system_object = record { number = 2; parent = 1; class = 3; name = codes "System"; values = []; sd = default_sd }

-- their member (7) is the object after AdminSDHolder, the first user of the first unit
abbrev pub administrators_object : ℕ → Object
administrators_object n = record {
  number = 3;
  parent = 1;
  class = 4;
  name = codes "Administrators";
  values = held_sid builtin_administrators ∷ record { attr = 7; values = link (n + 5) ∷ [] } ∷ [];
  sd = default_sd;
}

abbrev pub made_unit : ℕ → Object
made_unit i = record { number = i + 4; parent = 1; class = 2; name = unit_name i; values = []; sd = default_sd }

abbrev pub sd_holder_object : ℕ → Object
sd_holder_object n = record {
  number = n + 4;
  parent = 2;
  class = 3;
  name = codes "AdminSDHolder";
  values = [];
  sd
      = protected_sd;
}

-- of n units in all, the j-th user of the unit i + 1
abbrev pub made_user : ℕ → ℕ → ℕ → Object
made_user n i j = record {
  number = n + 4 + 10 * i + j;
  parent = i + 4;
  class = 5;
  name = user_name i j;
  values = held_sid (in_domain (1000 + 10 * i + j)) ∷ [];
  sd = default_sd;
}

unfoldable pub made_units : ℕ → List Object
made_units zero = []
made_units (suc i) = made_units i ++ made_unit i ∷ []

unfoldable pub made_users_of : ℕ → ℕ → ℕ → List Object
made_users_of n i zero = []
made_users_of n i (suc j) = made_users_of n i j ++ made_user n i (suc j) ∷ []

unfoldable pub made_users : ℕ → ℕ → List Object
made_users n zero = []
made_users n (suc i) = made_users n i ++ made_users_of n i 10

abbrev pub first_objects : ℕ → List Object
first_objects n = domain_object ∷ system_object ∷ administrators_object n ∷ []

abbrev pub upper_objects : ℕ → List Object
upper_objects n = first_objects n ++ (made_units n ++ sd_holder_object n ∷ [])

abbrev pub made_objects : ℕ → List Object
made_objects n = upper_objects n ++ made_users n n
