use Rattle.std.proofs.Common.{rules, sym, ◌∙◌, ap}
use Rattle.gate_log.specs.Layout.{opened}
use Rattle.gate_log.specs.Store.{number_of}
use Rattle.gate_log.proofs.Refusing.{all_behind}
use Rattle.gate_log.proofs.Single.{has_begins, has_head}
use Rattle.gate_log.proofs.resume.live_log.Goals as goal

pub returns-then-not-begins_with-clause-broken : goal.returns-then-not-begins_with-clause-broken
returns-then-not-begins_with-clause-broken c = λ is end bodies has.
    let front = has_head c.args.bytes.now (number_of c.args.version) c.args.generation end bodies has in
    c.if-not-begins_with.ensures.head front.0
    (front.1 ∙ ap (λ v. opened v c.args.generation front.0) (sym c.number.ensures))

pub returns-in_err-records-clause-broken : goal.returns-in_err-records-clause-broken
returns-in_err-records-clause-broken c = λ is end bodies has.
    c.in_err-records.ensures.broken (search rules) bodies
    (all_behind bodies c.args.bytes.now 14
    (has_begins c.args.bytes.now (number_of c.args.version) c.args.generation end bodies has))
