use Rattle.ad_rows.proofs.Following.{follow}
use Rattle.ad_rows.proofs.laws.a_row_follows_its_edit.Goals as goal

pub returns : goal.returns
returns c = follow
