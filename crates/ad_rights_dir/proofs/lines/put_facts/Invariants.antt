use Rattle.std.proofs.Common.{◌≡◌, ◌++◌, take}
use Rattle.std.specs.List.{flat_map}
use Rattle.ad_rights_dir.specs.Rights.{fact_line}
use Rattle.ad_rights_dir.proofs.lines.put_facts.Given as goal

-- those so far
abbrev pub invariant-loop-fact : goal.invariant-loop-fact
invariant-loop-fact l = l.into.items ≡ l.fn.into.items
    ++ flat_map (fact_line l.dir l.members) (take l.fact-index l.facts)
