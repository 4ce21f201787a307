use Rattle.std.proofs.Common.{◌∙◌, sym}
use Rattle.cmd_audit.proofs.Looking.{looked}
use Rattle.cmd_audit.proofs.frames.serve_unless.Goals as goal

pub returns-then-looks : goal.returns-then-looks
returns-then-looks c = looked c.args.replay.now c.args.frame.now (sym c.requires ∙ c.if-looks.true)
