use Rattle.std.proofs.Common.{◌≡◌, drop}
use Rattle.ad_questions.specs.Requirements.{are_met, requirements_seen}
use Rattle.ad_questions.proofs.needed.are_met.Given as goal

-- each so far is met
abbrev pub invariant-loop-requirement : goal.invariant-loop-requirement
invariant-loop-requirement l =
    are_met l.dir l.token (requirements_seen (drop l.requirement-index l.requirements))
    ≡ are_met l.dir l.token (requirements_seen l.requirements)
