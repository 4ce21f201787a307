use Rattle.std.proofs.Common.{◌≡◌, ◌++◌, length}
use Rattle.std.specs.Prelude.{filter_map}
use Rattle.ad_policies.specs.Policies.{policy_if, links_of}
use Rattle.ad_policies.proofs.policies.put_links.Given as goal

-- those so far, and those of the rest
abbrev pub invariant-each : goal.invariant-each
invariant-each l = l.into.items ++ filter_map (policy_if l.dir l.blocked) (links_of l.rest)
    ≡ l.initial.into.items ++ filter_map (policy_if l.dir l.blocked) (links_of l.fn.text)

abbrev pub decreases-each : goal.decreases-each
decreases-each l = length l.rest
