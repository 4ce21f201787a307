use Rattle.std.proofs.Common.{◌≡◌, ◌++◌}
use Rattle.ad_dir_objects.specs.Seen.{objects_of}
use Rattle.ad_dir_table.specs.Entry.{objects_in, HaveTheirSids}
use Rattle.ad_dir_table.specs.Indexed.{IsIndexed}
use Rattle.ad_dir.proofs.indexed_objects.put_all.Given as goal

-- those so far, and the others
abbrev pub invariant-loop-object : goal.invariant-loop-object
invariant-loop-object l =
    (goal.iterator-loop-object).can_next l.object-iterator × (goal.iterator-loop-object).is_finite l.object-iterator
    × (objects_in l.all.entries ++ objects_of l.object-iterator.rest.items ≡ objects_of l.fn.objects.items)
    × HaveTheirSids l.schema l.all.entries × IsIndexed l.schema l.index (objects_in l.all.entries)
