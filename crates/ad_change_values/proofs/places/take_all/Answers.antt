use Rattle.std.proofs.Common.{subst}
use Rattle.std.proofs.lemmas.List.{take_all}
use Rattle.ad_change_values.specs.Piles.{since_in}
use Rattle.ad_change_values.proofs.PileTaking.{IsTakenTo, taken_none, taken_more}
use Rattle.ad_change_values.proofs.places.take_all.Goals as goal

pub loop-one-init : goal.loop-one-init
loop-one-init c = taken_none (since_in c.args.places) c.args.all.now c.requires

pub loop-one-preserved : goal.loop-one-preserved
loop-one-preserved c =
    taken_more (since_in c.args.places) (since_in c.loop-one.places) (since_in c.take.new.places) c.args.all.now
    c.args.gone.now c.loop-one.one-index
    c.one-item.result c.in_ok-key.key c.loop-one-test.true c.one-item.is c.in_ok-key.ensures c.take.ensures
    c.loop-one.invariant

pub returns-clause-index : goal.returns-clause-index
returns-clause-index c = c.loop-one.invariant.index

pub returns-clause-left : goal.returns-clause-left
returns-clause-left c =
    (subst (IsTakenTo (since_in c.args.places) (since_in c.loop-one.places) c.args.all.now)
    (take_all c.loop-one.one-index c.args.gone.now c.loop-one-test.false)
    c.loop-one.invariant).left
