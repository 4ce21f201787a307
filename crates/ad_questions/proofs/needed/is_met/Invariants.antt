use Rattle.std.proofs.Common.{◌≡◌, drop, map}
use Rattle.ad_needs_rules.specs.Needs.{is_met}
use Rattle.ad_questions.specs.Requirements.{alternative_seen}
use Rattle.ad_questions.proofs.needed.is_met.Given as goal

-- none so far is granted
abbrev pub invariant-loop-alternative : goal.invariant-loop-alternative
invariant-loop-alternative l =
    is_met l.dir l.token (map alternative_seen (drop l.alternative-index l.requirement))
    ≡ is_met l.dir l.token (map alternative_seen l.requirement)
