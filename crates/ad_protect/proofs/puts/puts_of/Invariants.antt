use Rattle.std.proofs.Common.{take}
use Rattle.ad_protect.specs.Putting.{sd_given, puts_of}
use Rattle.ad_dir.specs.Conditions.{AreEdits}
use Rattle.ad_protect.proofs.puts.puts_of.Given as goal

-- the edits of those so far
abbrev pub invariant-loop-number : goal.invariant-loop-number
invariant-loop-number l = AreEdits (puts_of l.dir (sd_given l.given) (take l.number-index l.numbers)) l.edits.items
