use Rattle.std.proofs.Common.{◌≡◌, ◌&&◌, List, Vec, take, map, sym, subst}
use Rattle.std.specs.List.{AllByRecursion}
use Rattle.std.specs.declared.alloc.Global.{Global}
use Rattle.ad_questions.specs.declared.alternative.Alternative.{Alternative}
use Rattle.ad_questions.proofs.JudgedLaws.{all_at}
use Rattle.ad_ids.specs.declared.token.Token.{Token}
use Rattle.ad_questions.specs.Requirements.{alternative_seen, requirement_seen, requirements_seen, IsJudged}
use Rattle.ad_sets.specs.Sets.{sets_of}
use Rattle.ad_rights_rows.specs.Rows.{is_met_apart, are_met_apart}
use Rattle.ad_rights_rows.specs.Kept.{IsSetOf}
use Rattle.ad_rights_rows.proofs.Sets.{needed_more}
use Rattle.ad_rights_rows.proofs.bases.needed_set.Goals as goal

pub join_met-requires-clause-judged : goal.join_met-requires-clause-judged
join_met-requires-clause-judged c = c.loop-requirement.invariant.judged

pub join_met-requires-clause-place : goal.join_met-requires-clause-place
join_met-requires-clause-place c =
    let l = c.loop-requirement in (
      (λ (t : Token). are_met_apart c.args.dir.now t (requirements_seen (take l.requirement-index c.args.needed.now))),
      l.invariant.place,
    )

pub join_met-requires-clause-alternatives : goal.join_met-requires-clause-alternatives
join_met-requires-clause-alternatives c = λ k d lt.
    let dir = c.args.dir.now in
    let item = c.requirement-item.result in
    all_at alternative_seen (IsJudged dir) c.as_slice.result.now k d
    (subst (λ (kept : List Alternative). AllByRecursion (IsJudged dir) (map alternative_seen kept))
    (sym c.as_slice.ensures.value)
    (subst (λ (kept : Vec Alternative Global). AllByRecursion (IsJudged dir) (requirement_seen kept))
    (sym c.requirement-item.is)
    (all_at requirement_seen (AllByRecursion (IsJudged dir)) c.args.needed.now c.loop-requirement.requirement-index item
    c.requires.needed c.loop-requirement-test.true))) lt

pub loop-requirement-preserved : goal.loop-requirement-preserved
loop-requirement-preserved c =
    let l = c.loop-requirement in
    let dir = c.args.dir.now in
    let tokens = c.args.tokens.now.all.items in
    let new = sets_of c.join_met.new.judged.sets in
    let so_far = requirements_seen (take l.requirement-index c.args.needed.now) in
    record {
      judged = c.in_ok-next.ensures.judged;
      kept = λ place set at. c.in_ok-next.ensures.kept place set (l.invariant.kept place set at);
      place = needed_more dir new tokens c.args.needed.now l.requirement-index c.requirement-item.result c.in_ok-next.next
          c.loop-requirement-test.true
          (subst (λ (kept : Vec Alternative Global). IsSetOf new tokens (λ (t : Token). are_met_apart dir t so_far
          && is_met_apart dir t (requirement_seen kept)) c.in_ok-next.next) c.requirement-item.is
          (subst (λ (kept : List Alternative). IsSetOf new tokens (λ (t : Token). are_met_apart dir t so_far
          && is_met_apart dir t (map alternative_seen kept)) c.in_ok-next.next) c.as_slice.ensures.value
          (c.in_ok-next.ensures.joined (λ (t : Token). are_met_apart dir t so_far) l.invariant.place)));
    }
