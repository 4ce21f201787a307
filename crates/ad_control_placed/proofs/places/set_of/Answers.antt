use Rattle.std.proofs.Common.{ℕ, List, [], refl, sym, subst}
use Rattle.ad_dir_model.specs.Protection.{has}
use Rattle.ad_protect.specs.Spreading.{Takes}
use Rattle.ad_protect.proofs.Sets.{takes_none}
use Rattle.ad_protect.proofs.Steps.{take_numbers, take_numbers_end}
use Rattle.ad_control_placed.proofs.places.set_of.Goals as goal

pub loop-number-init : goal.loop-number-init
loop-number-init c =
    subst (λ (set : List ℕ). Takes (has []) [] set) (sym c.new-set.ensures.empty) (takes_none (has []) [] (λ n. refl))

pub loop-number-preserved : goal.loop-number-preserved
loop-number-preserved c =
    take_numbers c.args.numbers.now c.loop-number.number-index [] c.loop-number.set.keys c.take.new.into.keys
    c.loop-number-test.true c.loop-number.invariant c.in_ok-take.ensures

pub returns : goal.returns
returns c =
    take_numbers_end c.args.numbers.now c.loop-number.number-index [] c.loop-number.set.keys c.loop-number-test.false
    c.loop-number.invariant
