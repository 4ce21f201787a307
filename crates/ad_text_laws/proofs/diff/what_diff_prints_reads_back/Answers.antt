use Rattle.ad_text_laws.proofs.DiffReads.{diff_read}
use Rattle.ad_text_laws.proofs.diff.what_diff_prints_reads_back.Goals as goal

pub returns : goal.returns
returns c = diff_read
