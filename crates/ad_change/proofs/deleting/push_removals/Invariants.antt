use Rattle.std.proofs.Common.{ℕ, take, map}
use Rattle.ad_dir_model.specs.Directory.{remove_object}
use Rattle.ad_change.specs.Removing.{AddsEdits}
use Rattle.ad_change.proofs.deleting.push_removals.Given as goal

-- the removals of those so far
abbrev pub invariant-each : goal.invariant-each
invariant-each l = AddsEdits l.initial.edits l.edits (map (λ (n : ℕ). remove_object n) (take l.number-index l.numbers))
