use Rattle.ad_search_laws.proofs.ToldParts.{number_of_parts}
use Rattle.ad_search_laws.proofs.parts.the_number_of_parts_has_the_bits_of_their_rights.Goals as goal

pub returns : goal.returns
returns c = λ dir token number. number_of_parts dir token number
