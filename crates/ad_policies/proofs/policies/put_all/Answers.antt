use Rattle.std.proofs.Common.{◌∙◌, drop}
use Rattle.ad_policies.specs.Policies.{policies_over}
use Rattle.ad_policies.proofs.Putting.{container_put, containers_put, all_put}
use Rattle.ad_policies.proofs.policies.put_all.Goals as goal

pub up-preserved : goal.up-preserved
up-preserved c =
    container_put c.args.dir.now c.up.blocked c.blocks_or-blocked.result c.up.container-index c.args.containers.now
    c.up.into.items c.put_linked.new.into.items c.up-test.true c.in_ok-put_linked.ensures c.blocks_or-blocked.ensures
    ∙ c.up.invariant

pub returns : goal.returns
returns c =
    all_put c.up.into.items
    (policies_over c.args.dir.now c.up.blocked (drop c.up.container-index c.args.containers.now)) _
    (containers_put c.args.dir.now c.up.blocked c.up.container-index c.args.containers.now c.up-test.false)
    c.up.invariant
