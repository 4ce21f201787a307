use Rattle.std.proofs.Common.{ℕ, take, map}
use Rattle.ad_dir_model.specs.Directory.{put_object}
use Rattle.ad_change.specs.Removing.{AddsEdits, unlinked_at, losing_among}
use Rattle.ad_change.proofs.deleting.push_all_unlinking.Given as goal

-- the edits of those so far
abbrev pub invariant-each : goal.invariant-each
invariant-each l =
    AddsEdits l.initial.edits l.edits (map (λ (n : ℕ). put_object (unlinked_at l.dir l.target n))
    (losing_among l.dir l.target (take l.number-index l.numbers)))
