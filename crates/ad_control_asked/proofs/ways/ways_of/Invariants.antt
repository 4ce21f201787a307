use Rattle.std.proofs.Common.{◌≡◌, map, take}
use Rattle.std.specs.List.{All}
use Rattle.ad_control_graph.specs.Texts.{asking_seen}
use Rattle.ad_control_asked.specs.declared.ways.Known.{Known}
use Rattle.ad_control_asked.specs.Asked.{AreQuestions, in_schema, known_seen}
use Rattle.ad_control_asked.proofs.ways.ways_of.Given as goal

-- those so far
abbrev pub invariant-loop-way : goal.invariant-loop-way
invariant-loop-way l = record {
  are : map known_seen l.found.items ≡ map (in_schema l.schema) (map asking_seen (take l.way-index l.ways));
  questions : All (λ (one : Known). AreQuestions l.schema one.asks.items) l.found.items;
}
