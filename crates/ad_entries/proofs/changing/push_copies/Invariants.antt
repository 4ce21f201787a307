use Rattle.std.proofs.Common.{◌≡◌, ◌++◌, take}
use Rattle.ad_entries.proofs.changing.push_copies.Given as goal

-- those so far stand after
abbrev pub invariant-loop-other : goal.invariant-loop-other
invariant-loop-other l = l.attrs ≡ l.initial.attrs ++ take l.other-index l.others
