use Rattle.std.proofs.Common.{◌≡◌, ◌++◌}
use Rattle.ad_dsacls.specs.Effective.{child_lines}
use Rattle.ad_dsacls.proofs.rights.put_child_lines.Given as goal

-- the lines so far are put
abbrev pub invariant-each : goal.invariant-each
invariant-each l = l.out.items ≡ l.initial.out.items ++ child_lines l.dir l.token l.number l.class l.place
