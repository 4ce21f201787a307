use Rattle.std.proofs.Common.{◌≡◌, ◌++◌, take}
use Rattle.std.specs.List.{flat_map}
use Rattle.ad_rights_dir.specs.Rights.{none_line}
use Rattle.ad_rights_dir.proofs.lines.put_none_lines.Given as goal

-- those so far
abbrev pub invariant-loop-identity : goal.invariant-loop-identity
invariant-loop-identity l = l.into.items ≡ l.fn.into.items
    ++ flat_map (none_line l.dir) (take l.identity-index l.without)
