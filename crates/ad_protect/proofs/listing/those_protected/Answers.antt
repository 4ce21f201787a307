use Rattle.std.proofs.Common.{take_all, ap, ◌∙◌}
use Rattle.std.specs.Prelude.{filter}
use Rattle.ad_protect.specs.Spreading.{is_protected}
use Rattle.ad_protect.proofs.listing.those_protected.Goals as goal

pub returns : goal.returns
returns c = c.loop-number.invariant ∙ ap (filter (is_protected c.args.dir.now c.args.taken.now.keys))
    (take_all c.loop-number.number-index c.args.numbers.now c.loop-number-test.false)
