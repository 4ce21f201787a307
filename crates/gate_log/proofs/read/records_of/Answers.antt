use Rattle.std.proofs.Common.{◌-◌, ℕ, List, drop, length-drop, ◌≡◌, length, ap, sym, ◌∙◌, arith, rules}
use Rattle.std.proofs.lemmas.List.{take_all}
use Rattle.gate_log.proofs.Parsing.{record_more}
use Rattle.gate_log.proofs.Refusing.{stuck_at}
use Rattle.gate_log.proofs.read.records_of.Goals as goal

pub loop-bodies-preserved : goal.loop-bodies-preserved
loop-bodies-preserved c =
    let bytes = c.args.bytes.now in
    let body = c.in-Some.body in
    let found = rw c.in-Some.is at c.in_ok-body.ensures.record in
    let more = record_more bytes c.loop-bodies.bodies.items body found.0 found.1 c.loop-bodies.end
    c.loop-bodies.invariant.are c.loop-bodies.invariant.within found.2 found.3
    (sym (take_all (length bytes - c.loop-bodies.end) (drop c.loop-bodies.end bytes)
    (omega (arith, length-drop c.loop-bodies.end bytes))) ∙ found.4) in
    let long : length body ≡ length c.bytes-length.result.now = sym (ap (λ (l : List ℕ). length l)
    c.bytes-length.ensures) in
    let grown = c.in_ok-push.ensures.items in
    let moved = rw long at more in
    record {
      are = rw grown moved.0;
      within = moved.1;
      counts = rw grown (c.counts_with.ensures.counts c.loop-bodies.bodies.items body (sym long)
          c.loop-bodies.invariant.counts);
      small = omega (arith, c.counts_with.ensures.within, c.loop-bodies.invariant.small);
    }

pub returns-in_err-body-clause-broken : goal.returns-in_err-body-clause-broken
returns-in_err-body-clause-broken c = λ is bodies.
    stuck_at c.loop-bodies.bodies.items bodies c.args.bytes.now c.loop-bodies.end
    c.loop-bodies.invariant.are (c.in_err-body.ensures.broken (search rules))
