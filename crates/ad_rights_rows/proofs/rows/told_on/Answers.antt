use Rattle.std.proofs.lemmas.Result.{IfOk-weaker}
use Rattle.std.proofs.Common.{◌≡◌, ◌∙◌, List, Some, Vec, ap, subst}
use Rattle.std.specs.Prelude.{slice_get}
use Rattle.std.specs.declared.alloc.Global.{Global}
use Rattle.ad_needs_rules.specs.Needs.{Alternative}
use Rattle.ad_questions.specs.declared.alternative.Alternative.{Alternative as Kept}
use Rattle.ad_questions.specs.Requirements.{requirements, requirements_seen, is_allowed}
use Rattle.ad_sets.specs.Sets.{sets_of}
use Rattle.ad_sets.specs.Rows.{told_set, told_sign}
use Rattle.ad_rights_rows.specs.Rows.{base_of, whole_of, base_at, whole_at}
use Rattle.ad_rights_rows.proofs.rows.told_on.Goals as goal

pub returns-clause-told : goal.returns-clause-told
unfolding base_at whole_at is_allowed
returns-clause-told c =
    let dir = c.args.dir.now in
    let tokens = c.args.parties.now.tokens.all.items in
    let new = sets_of c.told_needed.new.judged.sets in
    let seen : requirements_seen c.as_slice.result.now ≡ requirements dir c.args.question c.args.number
    = ap (λ (kept : List (Vec Kept Global)). requirements_seen kept) c.as_slice.ensures.value
    ∙ c.in_ok-needed.ensures.needed in
    IfOk-weaker c.told_needed.result _ _ (λ told is.
    subst (λ (all : List (List Alternative)). (slice_get new told.0
    ≡ Some (told_set c.args.own (base_of dir tokens all) (whole_of dir tokens all)))
    × (told.1 ≡ told_sign c.args.own (base_of dir tokens all) (whole_of dir tokens all))) seen is)
    c.told_needed.ensures.told
