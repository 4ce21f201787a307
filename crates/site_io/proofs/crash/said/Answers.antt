use Rattle.std.proofs.Common.{◌++◌, List, ℕ, take, sym, ◌∙◌, ap}
use Rattle.site_io.specs.Calls.{said_by, said_in}
use Rattle.site_io.proofs.Moments.{said_push, one_more}
use Rattle.site_io.proofs.crash.said.Goals as goal

pub loop-call-preserved : goal.loop-call-preserved
loop-call-preserved c =
    let so_far = take c.loop-call.call-index c.args.calls.now in
    c.in_ok-say.ensures ∙ ap (λ (l : List ℕ). l ++ said_in c.call-item.result) c.loop-call.invariant
    ∙ sym (said_push so_far c.call-item.result)
    ∙ ap said_by (one_more c.args.calls.now c.loop-call.call-index c.call-item.result c.loop-call-test.true
    c.call-item.is)
