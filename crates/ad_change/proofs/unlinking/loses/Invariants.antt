use Rattle.std.proofs.Common.{◌≡◌, drop, map}
use Rattle.std.specs.List.{list_any}
use Rattle.ad_dir_objects.specs.Seen.{held_seen}
use Rattle.ad_dir_model.specs.Object.{Held}
use Rattle.ad_dir_model.specs.Changes.{goes_with}
use Rattle.ad_change.specs.Removing.{loses_some}
use Rattle.ad_change.proofs.unlinking.loses.Given as goal

-- none so far has one that is lost
abbrev pub invariant-each : goal.invariant-each
invariant-each l =
    list_any (λ (held : Held). loses_some (goes_with l.dir l.target) held.values)
    (map held_seen (drop l.held-index l.values))
    ≡ list_any (λ (held : Held). loses_some (goes_with l.dir l.target) held.values) (map held_seen l.values)
