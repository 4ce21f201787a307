use Rattle.std.proofs.Common.{map, drop}
use Rattle.std.specs.List.{AllByRecursion}
use Rattle.ad_load_records.specs.Good.{IsGoodRecord}
use Rattle.ad_load_records.specs.Seen.{seen}
use Rattle.ad_load_records.proofs.form.are_good.Given as goal

-- if the others are, all are
abbrev pub invariant-loop-one : goal.invariant-loop-one
invariant-loop-one l = AllByRecursion IsGoodRecord (map seen (drop l.one-index l.records))
    → AllByRecursion IsGoodRecord (map seen l.records)
