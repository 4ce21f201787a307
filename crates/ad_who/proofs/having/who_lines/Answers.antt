use Rattle.std.proofs.Common.{◌∙◌, List, sym, ap}
use Rattle.ad_schema.specs.declared.line.SchemaRecord.{SchemaRecord}
use Rattle.ad_questions.specs.Question.{question_of}
use Rattle.ad_who.proofs.having.who_lines.Goals as goal

pub returns-clause-text : goal.returns-clause-text
returns-clause-text c = record {
  question = c.in-Some.question;
  is_asked = sym (c.in-Some.ensures.asked ∙ ap (λ (schema : List SchemaRecord). question_of schema c.args.right.now)
      c.schema.ensures);
  number = c.in_ok-number.number;
  is_named = c.in_ok-number.ensures.number;
  all = c.in_ok-text.ensures.0;
  are = c.in_ok-text.ensures.1;
  lines = c.in_ok-text.ensures.2;
}
