use Rattle.std.proofs.Common.{◌∙◌, ℕ, ◌++◌, List, ap}
use Rattle.ad_policies.specs.Policies.{above_within, above}
use Rattle.ad_policies.proofs.Climbing.{up_all, up_root, up_none, up_more, above_live}
use Rattle.ad_policies.proofs.Putting.{all_put}
use Rattle.ad_policies.proofs.containers.above.Goals as goal

pub up-init : goal.up-init
up-init c =
    ap (λ (xs : List ℕ). xs ++ above_within c.args.dir.now 64 c.args.number) c.new-containers.ensures.items
    ∙ up_all c.args.dir.now c.args.number

pub returns-then-at-eq-ROOT-clause-above : goal.returns-then-at-eq-ROOT-clause-above
returns-then-at-eq-ROOT-clause-above c =
    all_put c.up.containers.items (above_within c.args.dir.now c.up.left c.up.at) (above c.args.dir.now c.args.number)
    (up_root c.args.dir.now c.up.left c.up.at c.if-at-eq-ROOT.true) c.up.invariant

pub returns-then-at-eq-ROOT-clause-live : goal.returns-then-at-eq-ROOT-clause-live
returns-then-at-eq-ROOT-clause-live c =
    above_live c.args.dir.now c.args.number c.up.containers.items c.invariants.ensures c.requires
    (all_put c.up.containers.items (above_within c.args.dir.now c.up.left c.up.at) (above c.args.dir.now c.args.number)
    (up_root c.args.dir.now c.up.left c.up.at c.if-at-eq-ROOT.true) c.up.invariant)

pub up-preserved : goal.up-preserved
up-preserved c =
    up_more c.args.dir.now c.up.left c.up.at c.parent_number-at.result c.up.containers.items c.push.new.self.items
    c.up-test.true c.if-at-eq-ROOT.false c.parent_number-at.ensures c.in_ok-push.ensures.items
    ∙ c.up.invariant

pub returns-clause-above : goal.returns-clause-above
returns-clause-above c =
    all_put c.up.containers.items (above_within c.args.dir.now c.up.left c.up.at) (above c.args.dir.now c.args.number)
    (up_none c.args.dir.now c.up.left c.up.at c.up-test.false) c.up.invariant

pub returns-clause-live : goal.returns-clause-live
returns-clause-live c =
    above_live c.args.dir.now c.args.number c.up.containers.items c.invariants.ensures c.requires
    (all_put c.up.containers.items (above_within c.args.dir.now c.up.left c.up.at) (above c.args.dir.now c.args.number)
    (up_none c.args.dir.now c.up.left c.up.at c.up-test.false) c.up.invariant)
