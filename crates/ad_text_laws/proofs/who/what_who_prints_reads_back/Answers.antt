use Rattle.ad_text_laws.proofs.PrintedLaws.{of_holders}
use Rattle.ad_text_laws.proofs.who.what_who_prints_reads_back.Goals as goal

pub returns : goal.returns
returns c = λ dir number needed identities text forms each are. of_holders dir number needed identities text forms each are
