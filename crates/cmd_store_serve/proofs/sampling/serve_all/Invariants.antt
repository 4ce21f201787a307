use Rattle.std.proofs.Common.{take}
use Rattle.cmd_store_serve.proofs.Served.{SoFar}
use Rattle.cmd_store_serve.proofs.sampling.serve_all.Given as goal

-- the frames that were served so far, with their answers
abbrev pub invariant-loop-frame : goal.invariant-loop-frame
invariant-loop-frame g l = SoFar g.S.Site l.fn.engine l.engine (take l.frame-index l.frames) l.answers.items l.fn.site
    l.site
