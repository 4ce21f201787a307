use Rattle.std.proofs.Common.{◌≡◌, ◌++◌, take}
use Rattle.std.specs.List.{flat_map}
use Rattle.ad_dsacls.specs.Effective.{right_line}
use Rattle.ad_dsacls.proofs.rights.put_right_lines.Given as goal

-- the lines so far are put
abbrev pub invariant-loop-right : goal.invariant-loop-right
invariant-loop-right l = l.out.items ≡ l.initial.out.items ++ flat_map (right_line l.dir l.token l.number l.class)
    (take l.right-index l.rights)
