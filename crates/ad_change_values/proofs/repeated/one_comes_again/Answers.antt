use Rattle.std.proofs.Common.{rules}
use Rattle.std.specs.BTreeSet.{contains}
use Rattle.ad_change_values.specs.StoredKeys.{stored_order}
use Rattle.ad_change_values.proofs.RepeatLaws.{was_old, was_new, none_yet, one_more, one_found, none_found}
use Rattle.ad_change_values.proofs.repeated.one_comes_again.Goals as goal

pub loop-value-init : goal.loop-value-init
loop-value-init c = none_yet (contains stored_order c.new-keys.result) c.args.read.now (λ k. search rules)

pub returns-then-not-new : goal.returns-then-not-new
returns-then-not-new c =
    one_found (contains stored_order c.loop-value.keys) c.in_ok-key.key c.args.read.now c.loop-value.value-index
    c.value-item.result c.loop-value-test.true
    c.value-item.is c.in_ok-key.ensures (was_old (contains stored_order c.loop-value.keys c.in_ok-key.key)
    c.in_ok-new.new c.in_ok-new.ensures.new c.if-not-new.true)
    c.loop-value.invariant

pub loop-value-preserved : goal.loop-value-preserved
loop-value-preserved c =
    one_more (contains stored_order c.loop-value.keys) (contains stored_order c.is_new.new.keys) c.in_ok-key.key
    c.args.read.now c.loop-value.value-index
    c.value-item.result c.loop-value-test.true c.value-item.is c.in_ok-key.ensures
    (was_new (contains stored_order c.loop-value.keys c.in_ok-key.key) c.in_ok-new.new c.in_ok-new.ensures.new
    c.if-not-new.false) c.in_ok-new.ensures.keys
    c.loop-value.invariant

pub returns : goal.returns
returns c = none_found (contains stored_order c.loop-value.keys) c.args.read.now c.loop-value.value-index
    c.loop-value-test.false c.loop-value.invariant
