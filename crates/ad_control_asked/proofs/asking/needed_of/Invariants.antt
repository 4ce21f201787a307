use Rattle.std.proofs.Common.{◌≡◌, take}
use Rattle.std.specs.List.{flat_map}
use Rattle.ad_questions.specs.Requirements.{requirements_seen, AreJudged}
use Rattle.ad_control_asked.specs.Asked.{needed_by}
use Rattle.ad_control_asked.proofs.asking.needed_of.Given as goal

-- what those so far ask for
abbrev pub invariant-loop-question : goal.invariant-loop-question
invariant-loop-question l = record {
  judged : AreJudged l.dir (requirements_seen l.needed.items);
  asked : requirements_seen l.needed.items ≡ flat_map (needed_by l.dir l.number) (take l.question-index l.asks);
}
