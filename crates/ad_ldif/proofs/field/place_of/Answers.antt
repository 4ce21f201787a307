use Rattle.ad_ldif.proofs.FieldLemmas.{place_is}
use Rattle.ad_ldif.proofs.field.place_of.Goals as goal

pub returns : goal.returns
returns c = place_is c.args.byte c.args.text.now c.memchr.result c.memchr.ensures
