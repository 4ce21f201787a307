use Rattle.ad_schema_classes.proofs.SetLaws.{set_is_least}
use Rattle.ad_schema_classes.proofs.laws.a_class_set_is_the_least.Goals as goal

pub returns : goal.returns
returns c = set_is_least
