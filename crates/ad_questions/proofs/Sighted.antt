-- An object is seen exactly where the requirements to see it are met, and so told.
use Rattle.std.proofs.Common.{◌≡◌, ◌∙◌, ℕ, Bool, true, false, ◌&&◌, ◌||◌, List, [], ◌++◌, refl, sym, ap}
use Rattle.std.specs.Prelude.{if◌then◌else◌, ◌==◌}
use Rattle.std.proofs.lemmas.List.Folds.{list_all-append}
use Rattle.ad_ids.specs.declared.token.Token.{Token}
use Rattle.ad_acl.specs.Mask.{list_children, list_object}
use Rattle.ad_access.specs.Visible.{sees}
use Rattle.ad_dir_model.specs.Objects.{parent_at, sd_at}
use Rattle.ad_dir_model.specs.Tree.{root}
use Rattle.ad_dir_model.specs.Identity.{self_sid}
use Rattle.ad_dir_model.specs.Settings.{list_object_mode}
use Rattle.ad_dir_model.specs.Directory.{Directory}
use Rattle.ad_access_dir.specs.Sight.{is_granted, is_visible}
use Rattle.ad_needs_rules.specs.Needs.{Alternative, is_met}
use Rattle.ad_questions.specs.declared.question.Question.{Question}
use Rattle.ad_questions.specs.Requests.{listed_needs, see_needs, is_right, sight_needs, is_for, request_needs}
use Rattle.ad_questions.specs.Requirements.{if_for, requirements, are_met, is_allowed}

-- ---- by truth values

plain : (x z : Bool) → (x || (false && z)) ≡ ((x || false) && true)
plain true z = refl
plain false z = refl

listed : (x y z : Bool) → (x || (true && (y && z))) ≡ ((x || (y || false)) && ((x || (z || false)) && true))
listed true y z = refl
listed false true true = refl
listed false true false = refl
listed false false z = refl

-- ---- to see

pub seen_is : (dir : Directory) (token : Token) (number : ℕ)
    → is_visible dir token number ≡ are_met dir token (see_needs dir number)
unfolding is_visible see_needs is_met is_granted
seen_is dir token number = by (number == root) (list_object_mode dir)
  where
    by : (top mode : Bool)
        → (top || sees mode (sd_at dir.objects (parent_at dir.objects number))
        (self_sid dir (parent_at dir.objects number)) (sd_at dir.objects number) (self_sid dir number) token)
        ≡ are_met dir token (if top then [] else listed_needs mode (parent_at dir.objects number) number)
    by true mode = refl
    by false false =
        plain (is_granted dir token (parent_at dir.objects number) [] list_children)
        (is_granted dir token (parent_at dir.objects number) [] list_object
        && is_granted dir token number [] list_object)
    by false true =
        listed (is_granted dir token (parent_at dir.objects number) [] list_children)
        (is_granted dir token (parent_at dir.objects number) [] list_object)
        (is_granted dir token number [] list_object)

-- ---- what is told

pub told_is : (dir : Directory) (token : Token) (question : Question) (number : ℕ) → is_right question ≡ false
    → is_allowed dir token question number
    ≡ (is_for dir question number
    && (is_visible dir token number && are_met dir token (request_needs dir question number)))
unfolding is_allowed requirements sight_needs is_met
told_is dir token question number no_right = by (is_for dir question number)
  where
    sight : sight_needs dir question number ≡ see_needs dir number
    sight = ap (λ (b : Bool). if b then [] else see_needs dir number) no_right

    both : are_met dir token (sight_needs dir question number ++ request_needs dir question number)
        ≡ (is_visible dir token number && are_met dir token (request_needs dir question number))
    both =
        list_all-append (is_met dir token) (sight_needs dir question number) (request_needs dir question number)
        ∙ ap (λ (needed : List (List Alternative)). are_met dir token needed
        && are_met dir token (request_needs dir question number)) sight
        ∙ ap (λ (b : Bool). b && are_met dir token (request_needs dir question number))
        (sym (seen_is dir token number))

    by : (possible : Bool)
        → are_met dir token (if_for possible
        (sight_needs dir question number ++ request_needs dir question number))
        ≡ (possible && (is_visible dir token number && are_met dir token (request_needs dir question number)))
    by true = both
    by false = refl
