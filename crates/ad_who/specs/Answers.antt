-- What each question is answered: a text, or the first fault from the left of its words, and then of tokens.
use Rattle.std.specs.Prelude.{◌≡◌, ◌⊎◌, ℕ, Bool, true, false, Option, Some, None, List, [], ◌∷◌, Result, Ok}
use Rattle.std.specs.Option.{option_map, option_and_then}
use Rattle.ad_ids.specs.SidValue.{SidValue}
use Rattle.ad_ids.specs.SidOfText.{sid_of_text}
use Rattle.ad_ids.specs.declared.token.Token.{Token}
use Rattle.ad_dir_model.specs.Directory.{Directory}
use Rattle.ad_dir_model.specs.Tree.{root}
use Rattle.ad_principals.specs.Named.{named}
use Rattle.ad_principals.specs.declared.fault.NameFault.{NameFault}
use Rattle.ad_identities.specs.declared.identity.Identity.{Identity}
use Rattle.ad_identities.specs.Identities.{AreIdentities, IsIdentityToken}
use Rattle.ad_identities.specs.Named.{identity_named}
use Rattle.ad_questions.specs.declared.question.Question.{Question}
use Rattle.ad_questions.specs.Question.{question_of}
use Rattle.ad_questions.specs.Requirements.{requirements}
use Rattle.ad_who.specs.declared.fault.AskFault.{AskFault}
use Rattle.ad_who.specs.declared.fault.AskFault.TheVariants.{NoIdentifier, NoRight}
use Rattle.ad_who.specs.Further.{IsTokenWith}
use Rattle.ad_who.specs.Lines.{token_text, AreWhoLines, can_text}
use Rattle.ad_who.specs.Faults.{fault_line, is_memory, IsNameFault, IsNoToken, IsNoIdentity}

-- ---- token

-- the identifiers that texts are; none where one isn't
unfoldable pub sids_of : List (List ℕ) → Option (List SidValue)
sids_of [] = Some []
sids_of (text ∷ texts) = option_and_then (λ sid. option_map (λ sids. sid ∷ sids) (sids_of texts)) (sid_of_text text)

-- that of the identity of a name, with further identifiers
pub record IsTokenText (dir : Directory) (name : List ℕ) (texts : List (List ℕ)) (text : List ℕ) : Type 0 where
  pub identity : Identity
  pub is_named : identity_named dir name ≡ Ok (Some identity)
  pub sids : List SidValue
  pub are_sids : sids_of texts ≡ Some sids
  pub token : Token
  pub is_token : IsTokenWith dir identity.sid identity.number sids token
  pub lines : text ≡ token_text token

-- the fault of the name, of the identifiers, or of the token
abbrev pub IsTokenRefusal : Directory → List ℕ → List (List ℕ) → AskFault → Type 0
IsTokenRefusal dir name texts fault =
    IsNameFault (identity_named dir name) fault
    ⊎ ((found : Option Identity) × (identity_named dir name ≡ Ok found)
    × (((fault ≡ NoIdentifier) × (sids_of texts ≡ None))
    ⊎ ((sids : List SidValue) × (sids_of texts ≡ Some sids) × IsNoToken dir found sids fault)))

-- ---- who

-- the lines of all identities, for a question about the object of a name
pub record IsWhoText (dir : Directory) (right name : List ℕ) (text : List ℕ) : Type 0 where
  pub question : Question
  pub is_asked : question_of dir.schema right ≡ Some question
  pub number : ℕ
  pub is_named : named dir name ≡ Ok number
  pub all : List Identity
  pub are : AreIdentities dir all
  pub lines : AreWhoLines dir number (requirements dir question number) all text

-- the fault of the right, or of the name
abbrev pub IsWhoRefusal : Directory → List ℕ → List ℕ → AskFault → Type 0
IsWhoRefusal dir right name fault =
    ((fault ≡ NoRight) × (question_of dir.schema right ≡ None))
    ⊎ ((question : Question) × (question_of dir.schema right ≡ Some question)
    × IsNameFault (named dir name) fault)

-- ---- can

-- the object of a name, and the root where none is given: an empty one is a name that nothing has
abbrev pub base_named : Directory → Option (List ℕ) → Result ℕ NameFault
base_named dir None = Ok root
base_named dir (Some name) = named dir name

-- the lines of the objects at and below a base, for the token of the identity of a name
pub record IsCanText (dir : Directory) (name right : List ℕ) (base : Option (List ℕ)) (text : List ℕ) : Type 0 where
  pub identity : Identity
  pub is_named : identity_named dir name ≡ Ok (Some identity)
  pub question : Question
  pub is_asked : question_of dir.schema right ≡ Some question
  pub from : ℕ
  pub is_base : base_named dir base ≡ Ok from
  pub token : Token
  pub is_token : IsIdentityToken dir identity token
  pub lines : text ≡ can_text dir token question from

-- the fault of the name, of the right, of the base, or of the token
abbrev pub IsCanRefusal : Directory → List ℕ → List ℕ → Option (List ℕ) → AskFault → Type 0
IsCanRefusal dir name right base fault =
    IsNameFault (identity_named dir name) fault
    ⊎ ((found : Option Identity) × (identity_named dir name ≡ Ok found)
    × (((fault ≡ NoRight) × (question_of dir.schema right ≡ None))
    ⊎ ((question : Question) × (question_of dir.schema right ≡ Some question)
    × (IsNameFault (base_named dir base) fault
    ⊎ ((from : ℕ) × (base_named dir base ≡ Ok from) × IsNoIdentity dir found fault)))))

-- ---- what is told

-- the line of a fault, which isn't want of memory
abbrev pub IsLineOf : Directory → (AskFault → Type 0) → List ℕ → Type 0
IsLineOf dir IsRefusal text = (fault : AskFault) × IsRefusal fault × (is_memory fault ≡ false)
    × (text ≡ fault_line dir fault)

-- an answer, or the line that says why there is none
abbrev pub IsTold : Directory → (List ℕ → Type 0) → (AskFault → Type 0) → Bool → List ℕ → Type 0
IsTold dir IsText IsRefusal true text = IsText text
IsTold dir IsText IsRefusal false text = IsLineOf dir IsRefusal text

abbrev pub TokenTold : Directory → List ℕ → List (List ℕ) → Bool → List ℕ → Type 0
TokenTold dir name texts = IsTold dir (IsTokenText dir name texts) (IsTokenRefusal dir name texts)

abbrev pub WhoTold : Directory → List ℕ → List ℕ → Bool → List ℕ → Type 0
WhoTold dir right name = IsTold dir (IsWhoText dir right name) (IsWhoRefusal dir right name)

abbrev pub CanTold : Directory → List ℕ → List ℕ → Option (List ℕ) → Bool → List ℕ → Type 0
CanTold dir name right base = IsTold dir (IsCanText dir name right base) (IsCanRefusal dir name right base)
