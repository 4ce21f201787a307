use Rattle.ad_identities.specs.Identities.{identity_at}
use Rattle.ad_identities.proofs.Listed.{one_more}
use Rattle.ad_identities.proofs.listing.put_of.Goals as goal

pub loop-number-preserved : goal.loop-number-preserved
loop-number-preserved c =
    one_more (identity_at c.args.dir.now) c.args.numbers.now c.loop-number.number-index 0 c.args.into.now.items
    c.loop-number.into.items c.put_at.new.into.items c.loop-number-test.true c.loop-number.invariant
    c.in_ok-put_at.ensures
