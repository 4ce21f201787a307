use Rattle.std.proofs.Common.{◌≡◌, take}
use Rattle.ad_rights.specs.Holding.{listed}
use Rattle.ad_questions.specs.Requirements.{requirements_seen}
use Rattle.ad_rights_rows.specs.Steps.{places_of}
use Rattle.ad_rights_rows.proofs.changes.places.Given as goal

-- those so far
abbrev pub invariant-loop-requirement : goal.invariant-loop-requirement
invariant-loop-requirement l = l.found.items ≡ places_of l.dir (listed l.tokens.holding.holders)
    (requirements_seen (take l.requirement-index l.needed))
