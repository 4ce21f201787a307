use Rattle.std.proofs.Common.{◌≡◌, ◌++◌, map}
use Rattle.std.specs.Map.{values_of}
use Rattle.ad_dir_table.proofs.stored_object.numbers.Given as goal

-- those so far, and those of the others
abbrev pub invariant-loop-kept : goal.invariant-loop-kept
invariant-loop-kept l = l.all.items ++ map (λ kept. kept.object.number) l.kept-iterator
    ≡ map (λ kept. kept.object.number) (values_of l.objects.entries)
