use Rattle.std.proofs.Common.{◌≡◌, ◌++◌, map, length}
use Rattle.std.specs.Vec.Iter.{into_iter_items, into_iter_len}
use Rattle.ad_dir_objects.specs.Seen.{held_seen}
use Rattle.ad_change_values.specs.ByAttr.{by_attr}
use Rattle.ad_change_values.proofs.rows.rows_of.Given as goal

-- those so far, and those to come
abbrev pub invariant-loop-attr : goal.invariant-loop-attr
invariant-loop-attr l = record {
  both : by_attr l.rows.entries ++ map held_seen (into_iter_items l.attr-iterator)
      ≡ map held_seen (into_iter_items l.initial.attr-iterator);
  len : into_iter_len l.attr-iterator ≡ length (into_iter_items l.attr-iterator);
}
