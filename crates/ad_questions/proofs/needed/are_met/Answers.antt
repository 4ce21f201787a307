use Rattle.std.proofs.Common.{List, Vec, map, sym, subst}
use Rattle.std.specs.List.{AllByRecursion}
use Rattle.std.specs.declared.alloc.Global.{Global}
use Rattle.ad_questions.specs.declared.alternative.Alternative.{Alternative}
use Rattle.ad_questions.specs.Requirements.{alternative_seen, requirement_seen, IsJudged}
use Rattle.ad_questions.proofs.JudgedLaws.{all_at}
use Rattle.ad_questions.proofs.needed.are_met.Goals as goal

pub is_met-requires : goal.is_met-requires
is_met-requires c =
    let dir = c.args.dir.now in
    let item = c.requirement-item.result in
    subst (λ (kept : List Alternative). AllByRecursion (IsJudged dir) (map alternative_seen kept))
    (sym c.as_slice.ensures.value)
    (subst (λ (kept : Vec Alternative Global). AllByRecursion (IsJudged dir) (requirement_seen kept))
    (sym c.requirement-item.is)
    (all_at requirement_seen (AllByRecursion (IsJudged dir)) c.args.requirements.now
    c.loop-requirement.requirement-index item c.requires c.loop-requirement-test.true))
