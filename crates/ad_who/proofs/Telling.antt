-- Where there is a reason to tell, and which one a plain right has.
use Rattle.std.proofs.Common.{◌≡◌, ℕ, Bool, true, false, ◌&&◌, ◌||◌, Some, None, refl, ap}
use Rattle.std.specs.Prelude.{if◌then◌else◌, is_some, ◌==◌}
use Rattle.std.proofs.lemmas.Bool.{eq-eqb}
use Rattle.ad_ids.specs.declared.token.Token.{Token}
use Rattle.ad_dir_model.specs.Directory.{Directory}
use Rattle.ad_access_dir.specs.Sight.{is_granted}
use Rattle.ad_needs_rules.specs.Needs.{is_met}
use Rattle.ad_questions.specs.declared.asked.Asked.{Asked}
use Rattle.ad_questions.specs.declared.question.Question.{Question}
use Rattle.ad_questions.specs.declared.question.Question.TheVariants as question
use Rattle.ad_questions.specs.Asked.{path_at}
use Rattle.ad_questions.specs.Requests.{sight_needs, is_for, request_needs}
use Rattle.ad_questions.specs.Requirements.{requirements, are_met, is_allowed}
use Rattle.ad_who.specs.declared.decider.Decider.{Decider}
use Rattle.ad_who.specs.declared.reason.Reason.{Reason}
use Rattle.ad_who.specs.declared.reason.Reason.TheVariants.{Free, Own}
use Rattle.ad_who.specs.Decider.{decider_at}
use Rattle.ad_who.specs.Reason.{on_object, last_of, reason_of, told}

pub told_is_allowed : (dir : Directory) (token : Token) (question : Question) (number : ℕ)
    → is_some (told dir token number (requirements dir question number)) ≡ is_allowed dir token question number
unfolding told is_allowed
told_is_allowed dir token question number =
    by (are_met dir token (requirements dir question number))
    (reason_of dir token number (last_of (requirements dir question number)))
  where
    by : (met : Bool) (reason : Reason) → is_some (if met then Some reason else None) ≡ met
    by true reason = refl
    by false reason = refl

own : (same granted : Bool) (d : Decider) → same ≡ true
    → (if (granted || false) && true then Some (if granted then on_object same d else Free) else None)
    ≡ (if granted then Some (Own d) else None)
own same true d is = ap (λ (b : Bool). Some (on_object b d)) is
own same false d is = refl

pub right_is_told : (dir : Directory) (token : Token) (asked : Asked) (number : ℕ)
    → told dir token number (requirements dir (question.Right asked) number)
    ≡ (if is_granted dir token number (path_at dir number asked.on) asked.bit
    then Some (Own (decider_at dir token number (path_at dir number asked.on) asked.bit))
    else None)
unfolding told requirements is_for sight_needs request_needs reason_of is_met
right_is_told dir token asked number =
    own (number == number) (is_granted dir token number (path_at dir number asked.on) asked.bit)
    (decider_at dir token number (path_at dir number asked.on) asked.bit) (eq-eqb number number refl)
