use Rattle.ad_rights_rows.specs.Steps.{IsFirst}
use Rattle.ad_rights_rows.proofs.nobody.first_of.Given as goal

-- no member so far
abbrev pub invariant-loop-member : goal.invariant-loop-member
invariant-loop-member l = IsFirst l.set l.member
