use Rattle.std.proofs.Common.{[], refl}
use Rattle.ad_dir_model.specs.Protection.{has}
use Rattle.ad_protect.proofs.Sets.{takes_none}
use Rattle.ad_protect.proofs.Steps.{take_numbers, take_numbers_end}
use Rattle.ad_protect.proofs.taking.take_all.Goals as goal

pub loop-number-init : goal.loop-number-init
loop-number-init c = takes_none (has []) c.args.taken.now.keys (λ n. refl)

pub loop-number-preserved : goal.loop-number-preserved
loop-number-preserved c =
    take_numbers c.args.numbers.now c.loop-number.number-index c.args.taken.now.keys c.loop-number.taken.keys
    c.take.new.taken.keys
    c.loop-number-test.true c.loop-number.invariant c.in_ok-take.ensures

pub returns : goal.returns
returns c =
    take_numbers_end c.args.numbers.now c.loop-number.number-index c.args.taken.now.keys c.loop-number.taken.keys
    c.loop-number-test.false c.loop-number.invariant
