use Rattle.std.proofs.Common.{◌≡◌, ℕ, ◌≤◌, length, map, drop}
use Rattle.ad_dir_objects.specs.Seen.{held_seen}
use Rattle.ad_dir_model.specs.Object.{stored_in}
use Rattle.ad_change_values.specs.ByAttr.{count_in}
use Rattle.ad_change_values.proofs.counts.counts_of.Given as goal

-- those from a place on
abbrev pub invariant-each : goal.invariant-each
invariant-each l = record {
  within : l.place ≤ length l.held;
  counts : (attr : ℕ) → count_in l.counts attr ≡ length (stored_in (map held_seen (drop l.place l.held)) attr);
}

abbrev pub decreases-each : goal.decreases-each
decreases-each l = l.place
