use Rattle.ad_rows_sound.proofs.Finds.{test_is}
use Rattle.ad_rows_sound.proofs.finding.is_utf8.Goals as goal

pub returns-clause-test : goal.returns-clause-test
returns-clause-test c = test_is c.is_text.result c.args.bytes.now c.is_text.ensures.0 c.is_text.ensures.1
