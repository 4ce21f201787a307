use Rattle.std.proofs.Common.{◌≡◌}
use Rattle.std.specs.List.{list_any}
use Rattle.ad_sd.specs.Seen.{seen}
use Rattle.ad_sd.specs.View.{to_come}
use Rattle.ad_access.specs.Grant.{sets_owner_rights}
use Rattle.ad_rights.proofs.entry.has_owner_rights.Given as goal

-- none so far sets them
abbrev pub invariant-loop-ace : goal.invariant-loop-ace
invariant-loop-ace l = list_any sets_owner_rights (seen l.view).dacl.entries ≡ list_any sets_owner_rights
    (to_come l.ace-iterator)
