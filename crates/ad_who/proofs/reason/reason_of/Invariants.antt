use Rattle.std.proofs.Common.{◌≡◌, drop, map}
use Rattle.ad_questions.specs.Requirements.{alternative_seen}
use Rattle.ad_who.specs.Reason.{reason_of}
use Rattle.ad_who.proofs.reason.reason_of.Given as goal

-- none so far is granted
abbrev pub invariant-loop-one : goal.invariant-loop-one
invariant-loop-one l =
    reason_of l.dir l.token l.number (map alternative_seen (drop l.one-index l.requirement))
    ≡ reason_of l.dir l.token l.number (map alternative_seen l.requirement)
