-- What is told: the line of a fault, and lines for a token.
use Rattle.std.proofs.Common.{◌≡◌, ◌∙◌, ℕ, Bool, false, List, Option, Some, Ok, sym, ap, subst}
use Rattle.ad_dir_model.specs.Directory.{Directory}
use Rattle.ad_who.specs.declared.fault.AskFault.{AskFault}
use Rattle.ad_ids.specs.declared.token.Token.{Token}
use Rattle.ad_identities.specs.declared.identity.Identity.{Identity}
use Rattle.ad_identities.specs.Identities.{IsIdentityToken}
use Rattle.ad_identities.specs.Named.{identity_named}
use Rattle.ad_questions.specs.declared.question.Question.{Question}
use Rattle.ad_questions.specs.Question.{question_of}
use Rattle.ad_who.specs.declared.told.Answer.{Answer}
use Rattle.ad_who.specs.Faults.{fault_line, is_memory}
use Rattle.ad_who.specs.Lines.{can_text}
use Rattle.ad_who.specs.Answers.{base_named, IsCanText, IsTold}

pub told_refused : (dir : Directory) (IsText : List ℕ → Type 0) (IsRefusal : AskFault → Type 0) (fault : AskFault)
    (told : Answer) → IsRefusal fault
    → (told.answered ≡ false) × (is_memory fault ≡ false) × (told.text.items ≡ fault_line dir fault)
    → IsTold dir IsText IsRefusal told.answered told.text.items
told_refused dir IsText IsRefusal fault told refused said =
    subst (λ (b : Bool). IsTold dir IsText IsRefusal b told.text.items) (sym said.0) (fault, refused, said.1, said.2)

pub can_told : (dir : Directory) (name right : List ℕ) (base : Option (List ℕ)) (found : Option Identity) (from : ℕ)
    (q : Question) (text : List ℕ)
    → identity_named dir name ≡ Ok found
    → question_of dir.schema right ≡ Some q → base_named dir base ≡ Ok from
    → (identity : Identity) × (found ≡ Some identity) × ((token : Token) × IsIdentityToken dir identity token
    × (text ≡ can_text dir token q from)) → IsCanText dir name right base text
can_told dir name right base found from q text is_named is_asked is_base (identity, is, told) = record {
  identity = identity;
  is_named = is_named ∙ ap (λ (f : Option Identity). Ok f) is;
  question = q;
  is_asked = is_asked;
  from = from;
  is_base = is_base;
  token = told.0;
  is_token = told.1;
  lines = told.2;
}
