use Rattle.std.proofs.Common.{◌≡◌, length}
use Rattle.ad_ldif.specs.Fields.{without_blanks}
use Rattle.ad_ldif.proofs.field.without_blanks.Given as goal

abbrev pub invariant-loop-first : goal.invariant-loop-first
invariant-loop-first l = without_blanks l.bytes ≡ without_blanks l.rest

abbrev pub decreases-loop-first : goal.decreases-loop-first
decreases-loop-first l = length l.rest
