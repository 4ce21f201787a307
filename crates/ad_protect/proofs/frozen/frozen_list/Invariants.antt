use Rattle.std.proofs.Common.{◌≡◌, ◌++◌, map}
use Rattle.ad_sd.specs.View.{entries_left}
use Rattle.ad_dir_model.specs.Protection.{frozen_entry}
use Rattle.ad_protect.proofs.frozen.frozen_list.Given as goal

-- the entries so far and those that are left
abbrev pub invariant-loop-ace : goal.invariant-loop-ace
invariant-loop-ace l = l.aces ++ map frozen_entry (entries_left l.ace-iterator)
    ≡ map frozen_entry (entries_left l.fn.entries)
