use Rattle.std.proofs.Common.{◌≡◌, take}
use Rattle.ad_inherit.specs.Whole.{explicit_entries}
use Rattle.ad_inherit.proofs.lists.explicit_of.Given as goal

abbrev pub invariant-loop-ace : goal.invariant-loop-ace
invariant-loop-ace l = l.aces ≡ explicit_entries (take l.ace-index l.entries)
