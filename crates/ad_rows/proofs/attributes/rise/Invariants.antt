use Rattle.std.proofs.Common.{◌≡◌, map, drop}
use Rattle.ad_dir_objects.specs.Seen.{held_seen}
use Rattle.ad_rows.specs.Parsing.{attrs_rise}
use Rattle.ad_rows.proofs.attributes.rise.Given as goal

-- what the whole gives is what the rest gives
abbrev pub invariant-loop-held : goal.invariant-loop-held
invariant-loop-held l = attrs_rise l.least (map held_seen (drop l.held-index l.all))
    ≡ attrs_rise 0 (map held_seen l.all)
