use Rattle.ad_rows_write.proofs.Written.{AreWritten}
use Rattle.ad_rows_write.proofs.parts.write_entries.Given as goal

-- those so far, and the others
abbrev pub invariant-loop-object : goal.invariant-loop-object
invariant-loop-object l =
    (goal.iterator-loop-object).can_next l.object-iterator × (goal.iterator-loop-object).is_finite l.object-iterator
    × AreWritten l.fn.objects.items l.object-iterator.rest.items l.fn.into l.written
