use Rattle.std.proofs.Common.{map}
use Rattle.ad_dir_objects.specs.Seen.{held_seen}
use Rattle.ad_change_values.specs.ByAttr.{by_attr}
use Rattle.ad_change_values.proofs.ItemLaws.{AreDoneTo}
use Rattle.ad_change_values.proofs.items.judge_items.Given as goal

abbrev pub invariant-loop-item : goal.invariant-loop-item
invariant-loop-item l = AreDoneTo l.dir (map held_seen l.fn.held.items) l.items l.item-index (by_attr l.rows.entries)
