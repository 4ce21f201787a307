use Rattle.std.proofs.Common.{[], refl, false, sym, subst, List, ℕ}
use Rattle.std.specs.Prelude.{◌&&◌}
use Rattle.ad_dir_model.specs.Identity.{self_sid}
use Rattle.ad_dir_model.specs.Protection.{has, begins_protection}
use Rattle.ad_protect.specs.Spreading.{Takes}
use Rattle.ad_protect.proofs.Sets.{takes_none}
use Rattle.ad_protect.proofs.Steps.{take_begun, take_begun_end}
use Rattle.ad_protect.proofs.spread.begun.Goals as goal

pub loop-number-init : goal.loop-number-init
loop-number-init c =
    subst (λ (set : List ℕ). Takes (λ n. has [] n && begins_protection c.args.dir.now (self_sid c.args.dir.now n)) []
    set)
    (sym c.new-taken.ensures.empty) (takes_none (λ n. false) [] (λ n. refl))

pub loop-number-preserved : goal.loop-number-preserved
loop-number-preserved c =
    take_begun c.args.dir.now c.args.numbers.now c.loop-number.number-index c.begins.result c.loop-number.taken.keys
    c.take_if.new.taken.keys
    c.loop-number-test.true c.begins.ensures c.loop-number.invariant c.in_ok-take_if.ensures

pub returns : goal.returns
returns c =
    take_begun_end c.args.dir.now c.args.numbers.now c.loop-number.number-index c.loop-number.taken.keys
    c.loop-number-test.false c.loop-number.invariant
