-- What is refused is no question.
use Rattle.std.proofs.Common.{◌≡◌, ℕ, ◌<◌, false, List, length, Option, None, Some, Result, Ok, Err, refl, arith}
use Rattle.site_io.specs.Told.{BothTold}
use Rattle.cmd_plain.specs.declared.request.RequestFault.{RequestFault}
use Rattle.cmd_plain.specs.declared.request.RequestFault.TheVariants.{Form, Memory}
use Rattle.cmd_plain.specs.Request.{Question}
use Rattle.cmd_plain.specs.RequestReading.{is_memory}
use Rattle.cmd_plain.specs.Access.{IsRefused}
use Rattle.cmd_plain.proofs.RequestCodec.{question_length}

-- bytes that were refused for their form are no question, since each question is read
pub no_question : (e : RequestFault) (q : Question) → e ≡ Form
    → (is_memory e ≡ false → ◌≡◌ {A = Result Question RequestFault} (Ok q) (Err e)) → ⊥
no_question Form q same only =
    let both : ◌≡◌ {A = Result Question RequestFault} (Ok q) (Err Form) = only refl in
    absurd cc
no_question Memory q same only = absurd cc

pub one_fault : {A : Type 0} (r : Result A RequestFault) (a : RequestFault) → r ≡ Err a → r ≡ Err Form → a ≡ Form
one_fault r a p q = cc

-- more bytes came than a question has
pub too_long : (rest left : Option (List ℕ)) → BothTold rest left (λ before after. 327755 < length before)
    → IsRefused rest left
too_long None None long = tt
too_long (Some before) (Some after) long = λ question. omega (arith, question_length question.0 before question.1)
too_long None (Some after) long = long
too_long (Some before) None long = long
