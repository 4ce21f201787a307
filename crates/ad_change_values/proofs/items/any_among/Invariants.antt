use Rattle.std.proofs.Common.{◌≡◌, map, drop}
use Rattle.std.specs.List.{list_any}
use Rattle.ad_dir_objects.specs.Seen.{stored_seen}
use Rattle.ad_change_values.specs.Values.{is_among}
use Rattle.ad_change_values.proofs.items.any_among.Given as goal

-- none so far is one
abbrev pub invariant-loop-one : goal.invariant-loop-one
invariant-loop-one l =
    list_any (is_among (map stored_seen l.stored)) (map stored_seen (drop l.one-index l.new))
    ≡ list_any (is_among (map stored_seen l.stored)) (map stored_seen l.new)
