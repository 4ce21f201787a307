use Rattle.std.proofs.Common.{◌≡◌, ◌++◌}
use Rattle.ad_sd.specs.View.{entries_left}
use Rattle.ad_inherit.specs.Whole.{passed}
use Rattle.ad_inherit.proofs.lists.put_passed.Given as goal

-- what was passed so far and what is still to be passed are the whole
abbrev pub invariant-loop-ace : goal.invariant-loop-ace
invariant-loop-ace l = l.aces ++ passed (entries_left l.ace-iterator) l.heir.class l.heir.owner l.heir.group
    ≡ l.initial.aces ++ passed (entries_left l.fn.parent) l.heir.class l.heir.owner l.heir.group
