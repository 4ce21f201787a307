-- What the facts of an answer say of an identity: on which objects it is told yes.
use Rattle.std.specs.Prelude.{◌≡◌, ◌⊎◌, ℕ, Bool, true, false, ◌&&◌, Option, Some, List, slice_get}
use Rattle.std.specs.List.{AllByRecursion}
use Rattle.ad_ids.specs.declared.token.Token.{Token}
use Rattle.ad_dir_model.specs.Objects.{is_live}
use Rattle.ad_dir_model.specs.Changes.{goes_with}
use Rattle.ad_dir_model.specs.Directory.{Directory}
use Rattle.ad_identities.specs.declared.identity.Identity.{Identity}
use Rattle.ad_identities.specs.Identities.{IsIdentityToken, HasTooManyIn}
use Rattle.ad_questions.specs.declared.question.Question.{Question}
use Rattle.ad_questions.specs.Requirements.{is_allowed}
use Rattle.ad_sets.specs.declared.told.Fact.{Fact}
use Rattle.ad_sets.specs.Told.{row_facts, reads}
use Rattle.ad_rights_rows.specs.Rows.{own_at, rows_below}
use Rattle.ad_rights_dir.specs.Rights.{IsRightsText}

-- a live object that is the base or stands below it
abbrev pub is_below : Directory → ℕ → ℕ → Bool
is_below dir base number = is_live dir.objects number && goes_with dir base number

-- An identity stands at a place of those who have a token. On each live object at and below the base the facts say of it
-- what the rule says of its token, and on no other object they say yes.
pub record IsGranted (dir : Directory) (question : Question) (base : ℕ) (parties : List Identity) (facts : List Fact)
    (identity : Identity) : Type 0 where
  pub member : ℕ
  pub stands : slice_get parties member ≡ Some identity
  pub token : Token
  pub is_token : IsIdentityToken dir identity token
  pub there : (number : ℕ) → is_below dir base number ≡ true
      → reads facts number (own_at parties number) member ≡ is_allowed dir token question number
  pub elsewhere : (number : ℕ) (own : Option ℕ) → is_below dir base number ≡ false
      → reads facts number own member ≡ false

-- it has too many groups for a token, and is among those who have none
pub record IsWithout (dir : Directory) (without : List Identity) (identity : Identity) : Type 0 where
  pub place : ℕ
  pub stands : slice_get without place ≡ Some identity
  pub too_many : HasTooManyIn dir identity

abbrev pub facts_told : (dir : Directory) (right : List ℕ) (base : Option (List ℕ)) (text : List ℕ)
    → IsRightsText dir right base text → List Fact
facts_told dir right base text told = row_facts (rows_below dir told.parties told.tokens told.question told.from)

-- each identity is granted by the facts of an answer what the rule grants it, or has no token
abbrev pub IsAnswered : (dir : Directory) (right : List ℕ) (base : Option (List ℕ)) (text : List ℕ)
    → IsRightsText dir right base text → Type 0
IsAnswered dir right base text told =
    AllByRecursion (λ (identity : Identity). IsGranted dir told.question told.from told.parties
    (facts_told dir right base text told) identity ⊎ IsWithout dir told.without identity) told.all
