use Rattle.std.proofs.Common.{◌≡◌, take, map}
use Rattle.ad_questions.specs.Requirements.{requirements_seen}
use Rattle.ad_rights_rows.specs.Steps.{change_at}
use Rattle.ad_rights_rows.proofs.changes.changes_at.Given as goal

-- those so far
abbrev pub invariant-loop-place : goal.invariant-loop-place
invariant-loop-place l = l.changes.items ≡ map (change_at l.dir l.tokens.all.items (requirements_seen l.needed))
    (take l.place-index l.places)
