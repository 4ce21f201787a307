use Rattle.std.proofs.Common.{◌≡◌, ◌++◌, take}
use Rattle.std.specs.List.{flat_map}
use Rattle.ad_dsacls.specs.Effective.{attribute_line}
use Rattle.ad_dsacls.proofs.rights.put_attr_lines.Given as goal

-- the lines so far are put
abbrev pub invariant-each : goal.invariant-each
invariant-each l = l.out.items ≡ l.initial.out.items ++ flat_map (attribute_line l.dir l.token l.number l.fn.class)
    (take l.i l.attrs)
