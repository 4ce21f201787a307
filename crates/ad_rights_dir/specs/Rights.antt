-- Who is told yes to a question on which objects of a directory, all at once: what `adsd rights STORE RIGHT [BASE]` tells.
use Rattle.std.specs.Prelude.{◌≡◌, ◌⊎◌, ℕ, Bool, true, false, Option, None, Some, List, [], ◌++◌, codes, decimal}
use Rattle.std.specs.Prelude.{slice_get, Result, Ok, Err}
use Rattle.std.specs.List.{flat_map}
use Rattle.ad_bytes.specs.Puts.{spaced, ended}
use Rattle.ad_ids.specs.SidText.{sid_text}
use Rattle.ad_ids.specs.declared.token.Token.{Token}
use Rattle.ad_dir_model.specs.Names.{name_text}
use Rattle.ad_dir_model.specs.Tree.{root}
use Rattle.ad_dir_model.specs.Directory.{Directory}
use Rattle.ad_principals.specs.Named.{named}
use Rattle.ad_principals.specs.declared.fault.NameFault.{NameFault}
use Rattle.ad_principals.specs.declared.fault.NameFault.TheVariants.{NoObject, Several, Memory}
use Rattle.ad_identities.specs.declared.identity.Identity.{Identity}
use Rattle.ad_identities.specs.Identities.{AreIdentities}
use Rattle.ad_questions.specs.declared.question.Question.{Question}
use Rattle.ad_questions.specs.Question.{question_of}
use Rattle.ad_sets.specs.declared.told.Sign.{Sign}
use Rattle.ad_sets.specs.declared.told.Sign.TheVariants.{Same, With, Without}
use Rattle.ad_sets.specs.declared.told.Fact.{Fact}
use Rattle.ad_sets.specs.declared.told.Fact.TheVariants.{In, On}
use Rattle.ad_sets.specs.Told.{row_facts}
use Rattle.ad_rights_rows.specs.Rows.{AreParties, rows_below}

-- ---- lines

-- the name of an identity's object; a hyphen where it has none
abbrev pub number_name : Directory → Option ℕ → List ℕ
number_name dir None = codes "-"
number_name dir (Some number) = name_text dir number

-- its identifier and its name
abbrev pub identity_end : Directory → Identity → List ℕ
identity_end dir identity = spaced (sid_text identity.sid) ++ ended (number_name dir identity.number)

abbrev pub none_line : Directory → Identity → List ℕ
none_line dir identity = codes "none " ++ identity_end dir identity

abbrev pub member_end : Directory → Option Identity → List ℕ
member_end dir None = []
member_end dir (Some identity) = identity_end dir identity

abbrev pub sign_text : Sign → List ℕ
sign_text Same = []
sign_text With = codes "+ "
sign_text Without = codes "- "

-- in a set stands somebody; exactly those of a set are told yes on an object
abbrev pub fact_line : Directory → List Identity → Fact → List ℕ
fact_line dir parties (In number place) =
    codes "in " ++ (spaced (decimal number) ++ member_end dir (slice_get parties place))
fact_line dir parties (On number sign object) =
    codes "on " ++ (spaced (decimal number) ++ (sign_text sign ++ ended (name_text dir object)))

-- ---- the text

-- the object of a name, and the root where none is given
abbrev pub base_named : Directory → Option (List ℕ) → Result ℕ NameFault
base_named dir None = Ok root
base_named dir (Some name) = named dir name

-- Who has no token; then each set at the first object that is told by it, and each object.
pub record IsRightsText (dir : Directory) (right : List ℕ) (base : Option (List ℕ)) (text : List ℕ) : Type 0 where
  pub question : Question
  pub is_question : question_of dir.schema right ≡ Some question
  pub from : ℕ
  pub is_base : base_named dir base ≡ Ok from
  pub all : List Identity
  pub are_all : AreIdentities dir all
  pub parties : List Identity
  pub tokens : List Token
  pub without : List Identity
  pub are_parties : AreParties dir all parties tokens without
  pub lines : text ≡ flat_map (none_line dir) without
      ++ flat_map (fact_line dir parties) (row_facts (rows_below dir parties tokens question from))

-- the line of a fault of a name; want of memory has none
abbrev pub IsNameLine : NameFault → List ℕ → Type 0
IsNameLine NoObject text = text ≡ codes "no object\n"
IsNameLine Several text = text ≡ codes "several objects\n"
IsNameLine Memory text = ⊥

-- The first word that is wrong, from the left: the right is none, or the base names no object, or several.
abbrev pub IsRightsRefusal : Directory → List ℕ → Option (List ℕ) → List ℕ → Type 0
IsRightsRefusal dir right base text =
    ((question_of dir.schema right ≡ None) × (text ≡ codes "no right\n"))
    ⊎ ((question : Question) × (fault : NameFault) × (question_of dir.schema right ≡ Some question)
    × (base_named dir base ≡ Err fault) × IsNameLine fault text)

-- an answer, or the line that says why there is none
abbrev pub RightsTold : Directory → List ℕ → Option (List ℕ) → Bool → List ℕ → Type 0
RightsTold dir right base true text = IsRightsText dir right base text
RightsTold dir right base false text = IsRightsRefusal dir right base text
