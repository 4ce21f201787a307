use Rattle.std.proofs.Common.{rules, subst}
use Rattle.std.proofs.lemmas.List.{take_all}
use Rattle.ad_change_values.specs.Piles.{since_in}
use Rattle.ad_change_values.proofs.PileLaws.{IsBuilt, built_none, built_more, built_index, built_all}
use Rattle.ad_change_values.proofs.places.places_of.Goals as goal

pub loop-one-init : goal.loop-one-init
loop-one-init c = built_none (since_in c.new-places.result) (λ q. search rules)

pub loop-one-preserved : goal.loop-one-preserved
loop-one-preserved c =
    built_more (since_in c.loop-one.places) (since_in c.put.new.places) c.args.all.now c.loop-one.one-index
    c.one-item.result c.in_ok-key.key c.loop-one-test.true
    c.one-item.is c.in_ok-key.ensures c.in_ok-put.ensures c.loop-one.invariant

pub returns-clause-index : goal.returns-clause-index
returns-clause-index c =
    built_index (since_in c.loop-one.places) c.args.all.now
    (subst (IsBuilt (since_in c.loop-one.places)) (take_all c.loop-one.one-index c.args.all.now c.loop-one-test.false)
    c.loop-one.invariant)

pub returns-clause-all : goal.returns-clause-all
returns-clause-all c =
    built_all (since_in c.loop-one.places) c.args.all.now
    (subst (IsBuilt (since_in c.loop-one.places)) (take_all c.loop-one.one-index c.args.all.now c.loop-one-test.false)
    c.loop-one.invariant)
