use Rattle.std.proofs.Common.{◌≡◌, ◌++◌, false, drop}
use Rattle.ad_policies.specs.Policies.{policies_over}
use Rattle.ad_policies.proofs.policies.put_all.Given as goal

-- those so far, and those of the containers that are left
abbrev pub invariant-up : goal.invariant-up
invariant-up l = l.into.items ++ policies_over l.dir l.blocked (drop l.container-index l.containers)
    ≡ l.initial.into.items ++ policies_over l.dir false l.containers
