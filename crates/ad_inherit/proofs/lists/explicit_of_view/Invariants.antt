use Rattle.std.proofs.Common.{◌≡◌, ◌++◌}
use Rattle.ad_sd.specs.View.{entries_left}
use Rattle.ad_inherit.specs.Whole.{explicit_entries}
use Rattle.ad_inherit.proofs.lists.explicit_of_view.Given as goal

-- the explicit entries so far and those that are left are those of the whole
abbrev pub invariant-loop-ace : goal.invariant-loop-ace
invariant-loop-ace l = l.aces ++ explicit_entries (entries_left l.ace-iterator)
    ≡ explicit_entries (entries_left l.fn.entries)
