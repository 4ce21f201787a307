-- What a question asks for at an object: requirements in order, each of which has to be met by one of its alternatives;
-- and whether a token meets them.
use Rattle.std.specs.Prelude.{◌≡◌, ℕ, ◌<◌, Bool, true, if◌then◌else◌, List, [], ◌∷◌, ◌++◌, Vec, map}
use Rattle.std.specs.List.{AllByRecursion, list_all}
use Rattle.std.specs.declared.alloc.Global.{Global}
use Rattle.ad_ids.specs.declared.token.Token.{Token}
use Rattle.ad_types.specs.Path.{guids_of}
use Rattle.ad_dir_model.specs.Objects.{is_live}
use Rattle.ad_dir_model.specs.Directory.{Directory}
use Rattle.ad_needs_rules.specs.Needs.{Alternative, needs, is_met}
use Rattle.ad_questions.specs.declared.question.Question.{Question}
use Rattle.ad_questions.specs.declared.alternative.Alternative.{Alternative as Kept}
use Rattle.ad_questions.specs.Requests.{is_for, sight_needs, request_needs}

-- a requirement that nobody meets: it has no alternative
abbrev pub nobody : List (List Alternative)
nobody = [] ∷ []

-- where the request can be for the object: to see it, and then what the request needs
abbrev pub if_for : Bool → List (List Alternative) → List (List Alternative)
if_for possible needed = if possible then needed else nobody

unfoldable pub requirements : Directory → Question → ℕ → List (List Alternative)
requirements dir question number =
    if_for (is_for dir question number) (sight_needs dir question number ++ request_needs dir question number)

-- each of some is met
abbrev pub are_met : Directory → Token → List (List Alternative) → Bool
are_met dir token all = list_all (is_met dir token) all

-- the token is told yes
unfoldable pub is_allowed : Directory → Token → Question → ℕ → Bool
is_allowed dir token question number = are_met dir token (requirements dir question number)

-- ---- as code keeps it

abbrev pub alternative_seen : Kept → Alternative
alternative_seen kept = needs kept.object kept.bit (guids_of kept.path)

abbrev pub requirement_seen : Vec Kept Global → List Alternative
requirement_seen kept = map alternative_seen kept.items

abbrev pub requirements_seen : List (Vec Kept Global) → List (List Alternative)
requirements_seen kept = map requirement_seen kept

-- It is of a live object, and of one right that is no generic one.
pub record IsJudged (dir : Directory) (a : Alternative) : Type 0 where
  pub live : is_live dir.objects a.object ≡ true
  pub bit : a.bit < 28

abbrev pub AreJudged : Directory → List (List Alternative) → Type 0
AreJudged dir all = AllByRecursion (AllByRecursion (IsJudged dir)) all
