use Rattle.std.proofs.Common.{◌≡◌, take}
use Rattle.ad_dir_objects.proofs.object_copy.values_copied.Given as goal

-- those so far
abbrev pub invariant-loop-attr : goal.invariant-loop-attr
invariant-loop-attr l = l.all ≡ take l.attr-index l.values
