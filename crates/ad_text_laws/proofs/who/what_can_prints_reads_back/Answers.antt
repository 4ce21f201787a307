use Rattle.ad_text_laws.proofs.PrintedLaws.{of_held}
use Rattle.ad_text_laws.proofs.who.what_can_prints_reads_back.Goals as goal

pub returns : goal.returns
returns c = λ dir token question base forms none. of_held dir token question forms none base
