use Rattle.std.proofs.Common.{length, ap, arith}
use Rattle.ad_sd.proofs.EntriesLeft.{none_left, begins, first_after, others_after}
use Rattle.ad_sd.proofs.entries_in.EntriesInIterator.next.Goals as goal

pub returns-then-self-eq0-clause-steps : goal.returns-then-self-eq0-clause-steps
returns-then-self-eq0-clause-steps c =
    let none = none_left c.args.self.now.count c.args.self.now.rest.now c.if-self-eq0.true in
    (none, none)

pub split_first-requires : goal.split_first-requires
split_first-requires c = begins c.args.self.now.count c.args.self.now.rest.now c.if-self-eq0.false
    c.args.self.now.readable

pub invariant_of-self : goal.invariant_of-self
invariant_of-self c = record {
  readable = others_after c.args.self.now.count c.args.self.now.rest.now
      c.split_first.result.1.now _ c.if-self-eq0.false c.split_first.ensures c.args.self.now.readable;
}

pub returns-clause-steps : goal.returns-clause-steps
returns-clause-steps c = first_after c.args.self.now.count c.args.self.now.rest.now c.split_first.result.1.now _
    c.if-self-eq0.false c.split_first.ensures c.args.self.now.readable

pub returns-clause-goes : goal.returns-clause-goes
returns-clause-goes c =
    let steps = first_after c.args.self.now.count c.args.self.now.rest.now c.split_first.result.1.now _
    c.if-self-eq0.false c.split_first.ensures c.args.self.now.readable in
    record { on = λ _. (tt, tt, omega (arith, ap length steps)); keeps = tt; rests = λ _. tt }
