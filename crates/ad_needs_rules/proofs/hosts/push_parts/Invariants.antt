use Rattle.std.proofs.Common.{◌≡◌, ◌++◌, take}
use Rattle.ad_needs_rules.specs.OwnWrites.{dotted}
use Rattle.ad_needs_rules.proofs.hosts.push_parts.Given as goal

-- the parts so far
abbrev pub invariant-each : goal.invariant-each
invariant-each l = l.into.items ≡ l.initial.into.items ++ dotted (take l.rdn-index l.rdns)
