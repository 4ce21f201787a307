use Rattle.std.proofs.Common.{get_or, List, ℕ, ap, ◌∙◌}
use Rattle.gate_log.proofs.Refusing.{no_slot}
use Rattle.gate_log.proofs.resume.generation_of.Goals as goal

pub returns-in_default-head_of-clause-broken : goal.returns-in_default-head_of-clause-broken
returns-in_default-head_of-clause-broken c = λ is.
    no_slot c.args.bytes.now (ap (λ (l : List ℕ). get_or l 0 0) c.in-Some.ensures.cases.0 ∙ c.if-gate-ne1.false)
    c.in_default-head_of.ensures.none
