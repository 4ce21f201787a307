use Rattle.std.proofs.Common.{◌≡◌, ◌≤◌, ◌-◌, ◌++◌, length, take}
use Rattle.std.specs.List.{flat_map}
use Rattle.ad_diff_rights.specs.Changes.{line_unless}
use Rattle.ad_diff_rights.specs.Steps.{texts}
use Rattle.ad_diff_rights.proofs.changes.put_first_lines.Given as goal

-- the lines so far
abbrev pub invariant-loop-count : goal.invariant-loop-count
invariant-loop-count l = record {
  within : l.count ≤ length l.granted;
  lines : l.into.items ≡ l.fn.into.items ++ flat_map (line_unless l.sign (texts l.others))
      (texts (take l.count l.granted));
}

abbrev pub decreases-loop-count : goal.decreases-loop-count
decreases-loop-count l = length l.granted - l.count
