use Rattle.ad_questions.proofs.question.question_of.Goals as goal

pub returns-in-Some-clause-known : goal.returns-in-Some-clause-known
returns-in-Some-clause-known c = c.in-Some.ensures.known c.args.schema.now
