use Rattle.std.proofs.Common.{take}
use Rattle.std.specs.Prelude.{All}
use Rattle.ad_diff_rights.specs.Named.{IsNamedBoth}
use Rattle.ad_diff_rights.proofs.named.named_by.Given as goal

-- what those so far name
abbrev pub invariant-loop-o : goal.invariant-loop-o
invariant-loop-o l = All (IsNamedBoth l.before l.after l.named.keys) (take l.o-index l.objects)
