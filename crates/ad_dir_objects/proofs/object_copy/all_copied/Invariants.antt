use Rattle.std.proofs.Common.{◌≡◌, take}
use Rattle.ad_dir_objects.proofs.object_copy.all_copied.Given as goal

-- those so far
abbrev pub invariant-loop-one : goal.invariant-loop-one
invariant-loop-one l = l.all ≡ take l.one-index l.stored
