use Rattle.ad_questions.specs.Requirements.{alternative_seen, IsJudged}
use Rattle.ad_questions.proofs.JudgedLaws.{all_at}
use Rattle.ad_who.proofs.reason.reason_of.Goals as goal

pub decider_of-decider-requires-clause-judged : goal.decider_of-decider-requires-clause-judged
decider_of-decider-requires-clause-judged c = all_at alternative_seen (IsJudged c.args.dir.now) c.args.requirement.now
    c.loop-one.one-index _ c.requires.judged c.loop-one-test.true
