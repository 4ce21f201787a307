use Rattle.std.proofs.Common.{sym}
use Rattle.ad_questions.proofs.Texts.{short_text}
use Rattle.ad_questions.proofs.asked.right_asked.Goals as goal

pub returns-then-text-lt2-clause-asked : goal.returns-then-text-lt2-clause-asked
returns-then-text-lt2-clause-asked c = sym (short_text c.args.schema.now c.args.text.now c.if-text-lt2.true)
