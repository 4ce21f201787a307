-- Why a token is told yes: what decides the right by which the last requirement of a question is met.
use Rattle.std.specs.Prelude.{ℕ, ◌-◌, Bool, true, false, ◌==◌, if◌then◌else◌, Option, Some, None, unwrap_or, slice_get}
use Rattle.std.specs.Prelude.{List, [], ◌∷◌, length}
use Rattle.ad_ids.specs.declared.token.Token.{Token}
use Rattle.ad_dir_model.specs.Directory.{Directory}
use Rattle.ad_access_dir.specs.Sight.{is_granted}
use Rattle.ad_needs_rules.specs.Needs.{Alternative}
use Rattle.ad_questions.specs.Requirements.{are_met}
use Rattle.ad_who.specs.declared.decider.Decider.{Decider}
use Rattle.ad_who.specs.declared.reason.Reason.{Reason}
use Rattle.ad_who.specs.declared.reason.Reason.TheVariants.{Free, Own, Above}
use Rattle.ad_who.specs.Decider.{decider_at}

-- the last of some requirements; none where there are none
abbrev pub last_of : List (List Alternative) → List Alternative
last_of all = unwrap_or (slice_get all (length all - 1)) []

-- on the object itself, or on another one, which is its parent
abbrev pub on_object : Bool → Decider → Reason
on_object true decider = Own decider
on_object false decider = Above decider

-- what decides the first alternative that is granted; where none is, nothing is needed
unfoldable pub reason_of : Directory → Token → ℕ → List Alternative → Reason
reason_of dir token number [] = Free
reason_of dir token number (a ∷ others) =
    if is_granted dir token a.object a.path a.bit
    then on_object (a.object == number) (decider_at dir token a.object a.path a.bit)
    else reason_of dir token number others

-- where each requirement is met, the reason by the last
unfoldable pub told : Directory → Token → ℕ → List (List Alternative) → Option Reason
told dir token number all = if are_met dir token all then Some (reason_of dir token number (last_of all)) else None
