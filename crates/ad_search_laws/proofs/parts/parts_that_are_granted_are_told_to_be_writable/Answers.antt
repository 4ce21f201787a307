use Rattle.ad_search_laws.proofs.ToldParts.{parts_told}
use Rattle.ad_search_laws.proofs.parts.parts_that_are_granted_are_told_to_be_writable.Goals as goal

pub returns : goal.returns
returns c = parts_told
