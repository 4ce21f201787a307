use Rattle.std.proofs.Common.{List, ℕ, ◌++◌, length, drop, ap}
use Rattle.gate_log.proofs.rewrite.put_over.Goals as goal

pub returns : goal.returns
returns c = ap (λ (l : List ℕ). l ++ drop (length c.args.front.now) c.args.into.now) c.copy_from_slice.ensures.after
