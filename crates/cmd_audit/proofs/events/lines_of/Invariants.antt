use Rattle.std.proofs.Common.{◌≡◌, ◌++◌, drop}
use Rattle.std.specs.List.{flat_map}
use Rattle.ad_types.specs.Tried.{tried_values}
use Rattle.cmd_audit.specs.Log.{lines_of_one}
use Rattle.cmd_audit.proofs.events.lines_of.Given as goal

-- the lines so far, and those of what is still to come
abbrev pub invariant-loop-one : goal.invariant-loop-one
invariant-loop-one l =
    flat_map (lines_of_one l.dir l.token l.stamp) (tried_values l.tried)
    ≡ l.text.items ++ flat_map (lines_of_one l.dir l.token l.stamp) (tried_values (drop l.one-index l.tried))
