use Rattle.std.proofs.Common.{arith}
use Rattle.gate_log.proofs.Parsing.{record_found}
use Rattle.gate_log.proofs.Refusing.{none_in_none, none_in_short, none_in_long}
use Rattle.gate_log.proofs.read.record_at.Goals as goal

pub returns-clause-record : goal.returns-clause-record
returns-clause-record c =
    let first = c.in-Some.ensures in
    let split = c.split_at.ensures in
    let gate = c.if-gate-ne1.false in
    record_found c.args.rest.now c.in-Some.tail.now c.split_at.result.0.now c.split_at.result.1.now
    c.of.result c.in-Some.gate.now c.number_of-length.result
    first.cases.0 gate split.front split.back (omega (arith, c.if-tail-lt8.false)) c.number_of-length.ensures
    (omega (arith, c.if-length-behind.false)) c.of.ensures

pub returns-in_default-clause-broken : goal.returns-in_default-clause-broken
returns-in_default-clause-broken c = λ is bodies. none_in_none bodies c.args.rest.now
    (omega (arith, c.in_default.ensures.cases))

pub returns-then-tail-lt8-clause-broken : goal.returns-then-tail-lt8-clause-broken
returns-then-tail-lt8-clause-broken c = λ is bodies.
    none_in_short bodies c.args.rest.now c.in-Some.tail.now c.in-Some.gate.now c.in-Some.ensures.cases.0
    c.if-gate-ne1.false (omega (arith, c.if-tail-lt8.true))

pub returns-then-length-behind-clause-broken : goal.returns-then-length-behind-clause-broken
returns-then-length-behind-clause-broken c = λ is bodies.
    let split = c.split_at.ensures in
    none_in_long bodies c.args.rest.now c.in-Some.tail.now c.split_at.result.0.now c.split_at.result.1.now
    c.in-Some.gate.now c.number_of-length.result
    c.in-Some.ensures.cases.0 c.if-gate-ne1.false split.front split.back (omega (arith, c.if-tail-lt8.false))
    c.number_of-length.ensures (omega (arith, c.if-length-behind.true))
