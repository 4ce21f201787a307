use Rattle.std.proofs.Common.{◌≡◌, true, false, arith}
use Rattle.prop_queue.proofs.Standing.{stands_within, set-marked}
use Rattle.prop_queue.proofs.queue.start_again.Goals as goal

pub returns-in-Some : goal.returns-in-Some
returns-in-Some c = λ parent stands. set-marked parent c.args.place c.args.entries.now.items c.in-Some.entry.now
    stands c.in-Some.ensures.value

pub returns-in_default : goal.returns-in_default
returns-in_default c = λ parent stands.
    let wrong : false ≡ true = c.in_default.ensures.variant.1
    (omega (arith, c.args.entries.now.ok.0, stands_within parent c.args.place c.args.entries.now.items stands)) in
    cc
