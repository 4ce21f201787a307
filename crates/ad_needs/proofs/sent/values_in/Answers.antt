use Rattle.ad_needs.proofs.SentLaws.{gets_more, gets_all}
use Rattle.ad_needs.proofs.sent.values_in.Goals as goal

pub loop-attr-preserved : goal.loop-attr-preserved
loop-attr-preserved c =
    gets_more c.args.schema.now c.args.class.0 c.args.attrs.now c.loop-attr.attr-index c.attr-item.result
    c.loop-attr.values c.push_values.new.into c.loop-attr-test.true c.attr-item.is
    c.loop-attr.invariant c.in_ok-push_values.ensures

pub returns : goal.returns
returns c = gets_all c.args.schema.now c.args.class.0 c.args.attrs.now c.loop-attr.attr-index c.loop-attr.values
    c.loop-attr-test.false c.loop-attr.invariant
