use Rattle.std.proofs.Common.{◌≡◌, ◌++◌, take}
use Rattle.std.specs.List.{flat_map}
use Rattle.ad_who.specs.Lines.{group_line}
use Rattle.ad_who.proofs.tokens.put_groups.Given as goal

-- the lines of the groups so far are put
abbrev pub invariant-loop-sid : goal.invariant-loop-sid
invariant-loop-sid l = l.into.items ≡ l.fn.into.items ++ flat_map group_line (take l.sid-index l.groups)
