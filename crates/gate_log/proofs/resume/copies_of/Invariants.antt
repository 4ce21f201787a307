use Rattle.std.proofs.Common.{◌≡◌, take}
use Rattle.gate_log.specs.Reading.{bodies_of}
use Rattle.gate_log.proofs.resume.copies_of.Given as goal

-- the copies so far
abbrev pub invariant-loop-body : goal.invariant-loop-body
invariant-loop-body l = bodies_of l.copies.items ≡ take l.body-index l.bodies
