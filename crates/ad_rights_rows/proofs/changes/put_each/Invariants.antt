use Rattle.std.proofs.Common.{◌≡◌, ◌++◌, take}
use Rattle.std.specs.List.{flat_map}
use Rattle.ad_rights.specs.Holding.{listed}
use Rattle.ad_questions.specs.Requirements.{alternative_seen}
use Rattle.ad_rights_judged.specs.Judged.{own_places}
use Rattle.ad_rights_rows.proofs.changes.put_each.Given as goal

-- those so far
abbrev pub invariant-loop-alternative : goal.invariant-loop-alternative
invariant-loop-alternative l = l.into.items ≡ l.fn.into.items
    ++ flat_map (λ a. own_places l.dir (listed l.tokens.holding.holders) (alternative_seen a).object)
    (take l.alternative-index l.requirement)
