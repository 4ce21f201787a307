use Rattle.ad_schema_classes.proofs.IndexLemmas.{same_name_is}
use Rattle.ad_schema_classes.proofs.names.same_name.Goals as goal

pub returns : goal.returns
returns c = same_name_is c.eq_ignore_ascii_case.result c.args.a.now c.args.b.now c.eq_ignore_ascii_case.ensures.test
