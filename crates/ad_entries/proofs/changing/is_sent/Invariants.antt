use Rattle.std.proofs.Common.{◌≡◌, drop}
use Rattle.std.specs.List.{list_any}
use Rattle.ad_schema_classes.specs.Names.{same_name}
use Rattle.ad_entries.proofs.changing.is_sent.Given as goal

-- none so far is the name
abbrev pub invariant-loop-asked : goal.invariant-loop-asked
invariant-loop-asked l = list_any (same_name l.name) (drop l.asked-index l.sent) ≡ list_any (same_name l.name) l.sent
