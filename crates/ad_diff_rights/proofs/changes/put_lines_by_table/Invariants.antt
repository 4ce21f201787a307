use Rattle.std.proofs.Common.{◌≡◌, ◌++◌, take}
use Rattle.std.specs.List.{flat_map}
use Rattle.ad_diff_rights.specs.Changes.{line_unless}
use Rattle.ad_diff_rights.specs.Steps.{texts}
use Rattle.ad_diff_rights.proofs.changes.put_lines_by_table.Given as goal

-- the lines so far
abbrev pub invariant-loop-label : goal.invariant-loop-label
invariant-loop-label l =
    l.into.items ≡ l.fn.into.items ++ flat_map (line_unless l.sign (texts l.others))
    (texts (take l.label-index l.granted))
