-- What an operation needs: requirements in order, each with alternatives of which one has to be granted ([MS-ADTS]
-- 3.1.1.5), and how one that is missing is told.
use Rattle.std.specs.Prelude.{ℕ, ◌^◌, Bool, codes, List, [], ◌∷◌, ◌++◌, map}
use Rattle.std.specs.List.{list_any, flat_map}
use Rattle.ad_ids.specs.declared.guid.Guid.{Guid}
use Rattle.ad_ids.specs.GuidText.{guid_or_hyphen}
use Rattle.ad_ids.specs.declared.token.Token.{Token}
use Rattle.ad_dir_model.specs.Directory.{Directory}
use Rattle.ad_dir_model.specs.Names.{name_text}
use Rattle.ad_access_dir.specs.Sight.{is_granted}
use Rattle.ad_needs_rules.specs.declared.need.Want.{Want}
use Rattle.ad_needs_rules.specs.declared.need.Need.{Need}
use Rattle.ad_acl.specs.Codes.{letters_of}
use Rattle.ad_types.specs.Path.{last_guid}

-- a right on an object, on a path
pub record Alternative : Type 0 where
  pub object : ℕ
  pub bit : ℕ
  pub path : List Guid

abbrev pub needs : ℕ → ℕ → List Guid → Alternative
needs object bit path = record { object = object; bit = bit; path = path }

-- one of the alternatives is granted
unfoldable pub is_met : Directory → Token → List Alternative → Bool
is_met dir token requirement = list_any (λ a. is_granted dir token a.object a.path a.bit) requirement

-- ---- as it is told

-- the right as a mask, and the last GUID of the path
abbrev pub want_of : Alternative → Want
want_of a = record { object = a.object; right = 2 ^ a.bit; guid = last_guid a.path }

abbrev pub need_of : List Alternative → Need
need_of requirement = record { alternatives = map want_of requirement }

-- ---- as text

-- the code, the GUID, and the name of the object
unfoldable pub want_text : Directory → Want → List ℕ
want_text dir want = letters_of want.right ++ (codes " "
    ++ (guid_or_hyphen want.guid ++ (codes " at " ++ name_text dir want.object)))

-- each further one after ` or `
abbrev pub other_text : Directory → Want → List ℕ
other_text dir want = codes " or " ++ want_text dir want

abbrev pub others_text : Directory → List Want → List ℕ
others_text dir wants = flat_map (other_text dir) wants

unfoldable pub wants_text : Directory → List Want → List ℕ
wants_text dir [] = []
wants_text dir (want ∷ others) = want_text dir want ++ others_text dir others

unfoldable pub need_text : Directory → Need → List ℕ
need_text dir need = codes "missing " ++ wants_text dir need.alternatives
