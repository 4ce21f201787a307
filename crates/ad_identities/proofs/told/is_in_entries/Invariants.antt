use Rattle.std.proofs.Common.{◌≡◌}
use Rattle.std.specs.List.{list_any}
use Rattle.ad_sd.specs.Seen.{seen}
use Rattle.ad_sd.specs.View.{to_come}
use Rattle.ad_identities.specs.Identities.{is_for}
use Rattle.ad_identities.proofs.told.is_in_entries.Given as goal

-- none so far has it
abbrev pub invariant-loop-ace : goal.invariant-loop-ace
invariant-loop-ace l = list_any (is_for l.sid) (seen l.fn.view).dacl.entries
    ≡ list_any (is_for l.sid) (to_come l.ace-iterator)
