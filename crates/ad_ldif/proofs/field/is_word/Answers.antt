use Rattle.ad_ldif.proofs.FieldLemmas.{word_is}
use Rattle.ad_ldif.proofs.field.is_word.Goals as goal

pub returns : goal.returns
returns c = word_is c.eq_ignore_ascii_case.result c.args.found.now c.args.name.now c.eq_ignore_ascii_case.ensures.test
