use Rattle.cmd_change.proofs.Frames.{a_long_input}
use Rattle.cmd_change.proofs.changing.long.Goals as goal

pub returns : goal.returns
returns c = λ input more. (a_long_input input c.in_ok-refusal.field-0.items more c.in_ok-refusal.ensures, λ _. tt)
