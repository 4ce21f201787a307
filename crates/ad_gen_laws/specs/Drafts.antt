-- What is known of each object of the sample before its links are.
use Rattle.std.specs.Prelude.{ℕ, zero, suc, ◌+◌, ◌*◌, List, [], ◌∷◌, ◌++◌, codes, None, Some}
use Rattle.ad_ids.specs.SidValue.{SidValue}
use Rattle.ad_ids.specs.Sid.{sid_bytes}
use Rattle.ad_dn.specs.NameKey.{name_key}
use Rattle.ad_value.specs.Value.{value, as_shown}
use Rattle.ad_value.specs.declared.value.Key.TheVariants as key
use Rattle.ad_load_objects.specs.Drafts.{Given, Draft}
use Rattle.ad_gen.specs.Frames.{in_domain, builtin_administrators}
use Rattle.ad_gen_laws.specs.Sample.{domain, system, sd_holder, administrators, unit, user}
use Rattle.ad_gen_laws.specs.Sent.{domain_sd, protected_sd}

-- ---- where each record begins in the text

abbrev pub unit_line : ℕ → ℕ
unit_line i = 287 + 43 * i

abbrev pub user_line : ℕ → ℕ → ℕ
user_line i j = 286 + 43 * i + 4 * j

-- ---- identifiers

-- S-1-5-21-1-2-3
abbrev pub domain_sid : SidValue
domain_sid = record { authority = 5; sub_authorities = 21 ∷ 1 ∷ 2 ∷ 3 ∷ [] }

-- the value of objectSid (6) on this line
abbrev pub given_sid : ℕ → SidValue → Given
given_sid k sid = record { line = k; spelled = codes "objectSid"; attr = 6; value = as_shown (sid_bytes sid) }

-- ---- objects

abbrev pub domain_draft : Draft
domain_draft = record {
  rdns = domain.rdns;
  parent = 0;
  class = 1;
  given = given_sid 272 domain_sid ∷ [];
  sd
      = Some domain_sd;
}

abbrev pub system_draft : Draft
system_draft = record { rdns = system.rdns; parent = 1; class = 3; given = []; sd = None }

-- the value of member (7) names the first user of the first unit
abbrev pub given_member : Given
given_member = record {
  line = 285;
  spelled = codes "member";
  attr = 7;
  value = value (codes "CN=u1-1,OU=o1,DC=sample") (key.Bytes (name_key (record { rdns = (user 0 1).rdns })));
}

abbrev pub administrators_draft : Draft
administrators_draft = record {
  rdns = administrators.rdns;
  parent = 1;
  class = 4;
  given = given_sid 284 builtin_administrators ∷ given_member ∷ [];
  sd = None;
}

abbrev pub unit_draft : ℕ → Draft
unit_draft i = record { rdns = (unit i).rdns; parent = 1; class = 2; given = []; sd = None }

abbrev pub sd_holder_draft : Draft
sd_holder_draft = record { rdns = sd_holder.rdns; parent = 2; class = 3; given = []; sd = Some protected_sd }

-- the unit i + 1 is the object i + 4
abbrev pub user_draft : ℕ → ℕ → Draft
user_draft i j = record {
  rdns = (user i j).rdns;
  parent = i + 4;
  class = 5;
  given = given_sid (user_line i j + 2) (in_domain (1000 + 10 * i + j)) ∷ [];
  sd = None;
}

-- ---- all objects, in the order of their numbers

unfoldable pub unit_drafts : ℕ → List Draft
unit_drafts zero = []
unit_drafts (suc i) = unit_drafts i ++ unit_draft i ∷ []

unfoldable pub users_of : ℕ → ℕ → List Draft
users_of i zero = []
users_of i (suc j) = users_of i j ++ user_draft i (suc j) ∷ []

unfoldable pub user_drafts : ℕ → List Draft
user_drafts zero = []
user_drafts (suc i) = user_drafts i ++ users_of i 10

abbrev pub first_drafts : List Draft
first_drafts = domain_draft ∷ system_draft ∷ administrators_draft ∷ []

abbrev pub upper_drafts : ℕ → List Draft
upper_drafts n = first_drafts ++ (unit_drafts n ++ sd_holder_draft ∷ [])

abbrev pub drafts : ℕ → List Draft
drafts n = upper_drafts n ++ user_drafts n
