use Rattle.std.proofs.Common.{◌≡◌, take}
use Rattle.ad_both.specs.Both.{both_among}
use Rattle.ad_both.proofs.both.both_among.Given as goal

-- those so far
abbrev pub invariant-loop-number : goal.invariant-loop-number
invariant-loop-number l =
    l.all.items ≡ both_among l.before l.after (take l.number-index l.numbers)
