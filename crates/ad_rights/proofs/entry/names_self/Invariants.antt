use Rattle.std.proofs.Common.{◌≡◌}
use Rattle.std.specs.List.{list_any}
use Rattle.ad_sd.specs.Seen.{seen}
use Rattle.ad_sd.specs.View.{to_come}
use Rattle.ad_rights.specs.Set.{is_for_self}
use Rattle.ad_rights.proofs.entry.names_self.Given as goal

-- none so far is for it
abbrev pub invariant-loop-ace : goal.invariant-loop-ace
invariant-loop-ace l = list_any is_for_self (seen l.view).dacl.entries ≡ list_any is_for_self
    (to_come l.ace-iterator)
