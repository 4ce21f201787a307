use Rattle.std.proofs.Common.{arith}
use Rattle.ad_dir.proofs.ShownLaws.{live_at, one_more_shown, all_shown}
use Rattle.ad_dir.proofs.shown.stored_values.Goals as goal

pub shown_value-requires : goal.shown_value-requires
shown_value-requires c = live_at c.args.dir.now.objects c.args.stored.now c.loop-value.value-index c.value-item.result
    c.requires c.loop-value-test.true c.value-item.is

pub loop-value-preserved : goal.loop-value-preserved
loop-value-preserved c =
    one_more_shown c.args.dir.now c.args.syntax c.args.stored.now c.loop-value.value-index c.value-item.result
    c.loop-value.values.items c.push.new.self.items c.in_ok-shown_value.field-0 c.loop-value-test.true
    c.value-item.is
    c.in_ok-shown_value.ensures c.in_ok-push.ensures.items c.loop-value.invariant

pub returns : goal.returns
returns c = all_shown c.args.dir.now c.args.syntax c.args.stored.now c.loop-value.value-index _
    (omega (arith, c.loop-value-test.false)) c.loop-value.invariant
