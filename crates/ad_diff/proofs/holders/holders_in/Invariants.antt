use Rattle.ad_diff.specs.Holders.{AreHolders}
use Rattle.ad_diff.proofs.holders.holders_in.Given as goal

-- those so far are noted
abbrev pub invariant-each : goal.invariant-each
invariant-each l = AreHolders l.parties l.fn.first l.place l.places
