use Rattle.std.proofs.Common.{◌≡◌, Bool, List, sym, ap, subst}
use Rattle.std.specs.Prelude.{IfOk}
use Rattle.ad_types.specs.Tried.{TriedValue, tried_values}
use Rattle.cmd_audit.specs.Tries.{reading_tries, message_tries, reading_looks, message_looks}
use Rattle.cmd_audit.proofs.messages.accesses_of.Goals as goal

pub returns-in-Ok-clause-tried : goal.returns-in-Ok-clause-tried
unfolding message_tries
returns-in-Ok-clause-tried c =
    subst (λ (l : List TriedValue). IfOk c.of_message.result (λ accesses. tried_values accesses.tried.items ≡ l))
    (ap (reading_tries c.args.dir.now c.args.token.now) (sym c.in-Ok.ensures.fault)) c.of_message.ensures.tried

pub returns-in-Ok-clause-looks : goal.returns-in-Ok-clause-looks
unfolding message_looks
returns-in-Ok-clause-looks c =
    subst (λ (b : Bool). IfOk c.of_message.result (λ accesses. accesses.looks ≡ b))
    (ap reading_looks (sym c.in-Ok.ensures.fault)) c.of_message.ensures.looks
