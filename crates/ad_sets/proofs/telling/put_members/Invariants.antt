use Rattle.std.proofs.Common.{◌≡◌, ◌++◌, drop}
use Rattle.ad_sets.specs.Told.{members_from}
use Rattle.ad_sets.proofs.telling.put_members.Given as goal

-- those so far, before those that are left, are all
abbrev pub invariant-loop-place : goal.invariant-loop-place
invariant-loop-place l = l.facts.items ++ members_from l.number l.place (drop l.place l.set)
    ≡ l.fn.facts.items ++ members_from l.number 0 l.set
