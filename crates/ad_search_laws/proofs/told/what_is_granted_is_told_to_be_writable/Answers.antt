use Rattle.ad_search_laws.proofs.Replacing.{granted_told}
use Rattle.ad_search_laws.proofs.told.what_is_granted_is_told_to_be_writable.Goals as goal

pub returns : goal.returns
returns c = granted_told
