use Rattle.std.proofs.Common.{◌≡◌, ◌++◌, map}
use Rattle.ad_sd.specs.Seen.{seen}
use Rattle.ad_sd.specs.View.{entries_left}
use Rattle.ad_sddl.specs.Canonical.{entry_text}
use Rattle.ad_inherit.specs.Whole.{explicit_entries}
use Rattle.ad_causes.specs.Extra.{texts}
use Rattle.ad_causes.proofs.entries.entry_texts.Given as goal

-- the texts so far and those of the entries that are left are those of all
abbrev pub invariant-loop-ace : goal.invariant-loop-ace
invariant-loop-ace l =
    texts l.all.items ++ map entry_text (explicit_entries (entries_left l.ace-iterator))
    ≡ map entry_text (explicit_entries (seen l.fn.view).dacl.entries)
