use Rattle.std.proofs.Common.{◌≡◌, ◌++◌, take}
use Rattle.std.specs.Prelude.{filter}
use Rattle.std.specs.List.{flat_map}
use Rattle.ad_dir_model.specs.Changes.{goes_with}
use Rattle.ad_who.specs.Lines.{can_line}
use Rattle.ad_who.proofs.reaching.put_can_lines.Given as goal

-- the lines of those so far are put
abbrev pub invariant-loop-number : goal.invariant-loop-number
invariant-loop-number l =
    l.into.items ≡ l.fn.into.items ++ flat_map (can_line l.dir l.token l.question)
    (filter (goes_with l.dir l.base) (take l.number-index l.numbers))
