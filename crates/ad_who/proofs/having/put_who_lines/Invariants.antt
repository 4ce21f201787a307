use Rattle.std.proofs.Common.{drop}
use Rattle.ad_questions.specs.Requirements.{requirements_seen}
use Rattle.ad_who.proofs.WhoLines.{SoFar}
use Rattle.ad_who.proofs.having.put_who_lines.Given as goal

abbrev pub invariant-loop-identity : goal.invariant-loop-identity
invariant-loop-identity l =
    SoFar l.dir l.number (requirements_seen l.needed) l.identities (drop l.identity-index l.identities)
    l.fn.into.items l.into.items
