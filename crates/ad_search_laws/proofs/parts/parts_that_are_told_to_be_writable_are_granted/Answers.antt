use Rattle.ad_search_laws.proofs.ToldParts.{parts_granted}
use Rattle.ad_search_laws.proofs.parts.parts_that_are_told_to_be_writable_are_granted.Goals as goal

pub returns : goal.returns
returns c = parts_granted
