use Rattle.std.proofs.Common.{take}
use Rattle.ad_diff.specs.Families.{AreJoined}
use Rattle.ad_diff.proofs.families.families_of.Given as goal

-- those so far are in families
abbrev pub invariant-loop-o : goal.invariant-loop-o
invariant-loop-o l =
    AreJoined l.before l.after (take l.o-index l.fn.objects) l.families.objects.items l.families.firsts.items
