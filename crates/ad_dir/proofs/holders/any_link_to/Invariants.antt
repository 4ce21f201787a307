use Rattle.std.proofs.Common.{◌≡◌, drop, map}
use Rattle.std.specs.List.{list_any}
use Rattle.ad_dir_objects.specs.Seen.{held_seen}
use Rattle.ad_dir_model.specs.Object.{Held, names}
use Rattle.ad_dir.proofs.holders.any_link_to.Given as goal

-- none so far has one
abbrev pub invariant-each : goal.invariant-each
invariant-each l =
    list_any (λ (held : Held). names l.target held.values) (map held_seen (drop l.held-index l.values))
    ≡ list_any (λ (held : Held). names l.target held.values) (map held_seen l.values)
