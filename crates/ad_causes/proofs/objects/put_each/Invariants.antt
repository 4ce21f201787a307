use Rattle.std.proofs.Common.{◌≡◌, ◌++◌, take}
use Rattle.std.specs.List.{flat_map}
use Rattle.ad_causes.specs.Steps.{object_text}
use Rattle.ad_causes.proofs.objects.put_each.Given as goal

-- the lines so far
abbrev pub invariant-loop-o : goal.invariant-loop-o
invariant-loop-o l =
    l.into.items ≡ l.fn.into.items ++ flat_map (object_text l.before l.after) (take l.o-index l.objects)
