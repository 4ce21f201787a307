use Rattle.ad_questions.specs.Requirements.{alternative_seen, IsJudged}
use Rattle.ad_questions.proofs.JudgedLaws.{all_at}
use Rattle.ad_questions.proofs.needed.is_met.Goals as goal

pub is_right_granted-requires : goal.is_right_granted-requires
is_right_granted-requires c = all_at alternative_seen (IsJudged c.args.dir.now) c.args.requirement.now
    c.loop-alternative.alternative-index _ c.requires c.loop-alternative-test.true
