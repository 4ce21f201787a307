use Rattle.std.proofs.Common.{◌≡◌, map, take}
use Rattle.ad_questions.specs.Question.{question_of}
use Rattle.ad_control_graph.specs.Texts.{texts_seen}
use Rattle.ad_control_asked.specs.Asked.{AreQuestions}
use Rattle.ad_control_asked.proofs.ways.questions_of.Given as goal

-- those so far
abbrev pub invariant-loop-text : goal.invariant-loop-text
invariant-loop-text l = record {
  asked : l.found.items ≡ map (question_of l.schema) (texts_seen (take l.text-index l.texts));
  known : AreQuestions l.schema l.found.items;
}
