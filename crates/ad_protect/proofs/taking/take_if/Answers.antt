use Rattle.std.proofs.Common.{Bool, sym, ap}
use Rattle.std.specs.Prelude.{nat_eq, ◌&&◌}
use Rattle.std.proofs.lemmas.Result.{on_ok_weaker}
use Rattle.ad_protect.proofs.Sets.{takes_none, takes_same}
use Rattle.ad_protect.proofs.taking.take_if.Goals as goal

pub returns-then-wanted : goal.returns-then-wanted
returns-then-wanted c =
    on_ok_weaker c.take.result
    (takes_same (nat_eq c.args.number) (λ n. c.args.wanted && nat_eq c.args.number n) c.args.taken.now.keys
    c.take.new.taken.keys
    (λ n. sym (ap (λ (b : Bool). b && nat_eq c.args.number n) c.if-wanted.true)))
    c.take.ensures

pub returns : goal.returns
returns c =
    takes_none (λ n. c.args.wanted && nat_eq c.args.number n) c.args.taken.now.keys
    (λ n. ap (λ (b : Bool). b && nat_eq c.args.number n) c.if-wanted.false)
