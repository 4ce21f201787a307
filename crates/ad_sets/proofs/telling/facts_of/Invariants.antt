use Rattle.std.proofs.Common.{◌≡◌, ◌++◌, drop, map}
use Rattle.ad_sets.specs.Told.{row_facts, facts_from}
use Rattle.ad_sets.specs.Sets.{sets_of}
use Rattle.ad_sets.specs.Rows.{value_of}
use Rattle.ad_sets.specs.Telling.{told_of, AreHints}
use Rattle.ad_sets.proofs.telling.facts_of.Given as goal

-- what is told so far, before what the rows that are left tell, is what all tell
abbrev pub invariant-loop-row : goal.invariant-loop-row
invariant-loop-row l = record {
  hints : AreHints (sets_of l.sets) (told_of l.told) l.numbers.items;
  facts : l.facts.items ++ facts_from (told_of l.told) (map (value_of (sets_of l.sets)) (drop l.row-index l.rows))
      ≡ row_facts (map (value_of (sets_of l.sets)) l.rows);
}
