use Rattle.std.proofs.Common.{◌≡◌, take}
use Rattle.std.specs.Prelude.{filter}
use Rattle.ad_diff_rights.specs.Both.{are_principals}
use Rattle.ad_diff_rights.proofs.both.principals_among.Given as goal

-- those so far
abbrev pub invariant-loop-o : goal.invariant-loop-o
invariant-loop-o l =
    l.all.items ≡ filter (are_principals l.before l.after) (take l.o-index l.objects)
