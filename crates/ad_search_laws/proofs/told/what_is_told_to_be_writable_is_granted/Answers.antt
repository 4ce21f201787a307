use Rattle.ad_search_laws.proofs.Replacing.{told_granted}
use Rattle.ad_search_laws.proofs.told.what_is_told_to_be_writable_is_granted.Goals as goal

pub returns : goal.returns
returns c = told_granted
