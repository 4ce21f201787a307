use Rattle.ad_ldif.proofs.NumberLemmas.{stops_within}
use Rattle.ad_ldif.proofs.reader.Reader.over.Goals as goal

pub returns-clause-within : goal.returns-clause-within
returns-clause-within c = λ f e. stops_within c.args.bytes.now f e
