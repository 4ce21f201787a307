use Rattle.std.proofs.Common.{◌≤◌, arith}
use Rattle.ad_dir_links.specs.Counted.{pair_key}
use Rattle.ad_dir_links.proofs.Nexts.{above_pair, within_pair}
use Rattle.ad_dir_links.proofs.links.next_holder.Goals as goal

pub overflow_sub-key : goal.overflow_sub-key
unfolding pair_key
overflow_sub-key c = omega (arith, c.pair_key-first.ensures, c.pair_key.ensures, c.in-Some.ensures.above)

pub returns-in-Some-clause-above : goal.returns-in-Some-clause-above
returns-in-Some-clause-above c =
    above_pair c.try_from.result c.ok.result c.args.target c.args.above c.pair_key-first.result c.pair_key.result
    c.in-Some.key c.pair_key-first.ensures c.pair_key.ensures
    c.in-Some.ensures.above c.try_from.ensures c.ok.ensures.value

pub returns-in-Some-clause-least : goal.returns-in-Some-clause-least
unfolding pair_key
returns-in-Some-clause-least c = λ holder small more some.
    let least : c.in-Some.key ≤ pair_key c.args.target holder = c.in-Some.ensures.least
    (pair_key c.args.target holder) (omega (arith, c.pair_key.ensures, more)) some in
    within_pair c.try_from.result c.ok.result c.args.target holder c.pair_key-first.result c.pair_key.result
    c.in-Some.key c.pair_key-first.ensures
    least small c.try_from.ensures c.ok.ensures.value

pub returns-in-None-clause-least : goal.returns-in-None-clause-least
unfolding pair_key
returns-in-None-clause-least c = λ holder small more some.
    c.in-None.ensures.least (pair_key c.args.target holder) (omega (arith, c.pair_key.ensures, more)) some
