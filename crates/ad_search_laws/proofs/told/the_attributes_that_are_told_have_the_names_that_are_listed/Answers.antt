use Rattle.ad_search_laws.proofs.ListedNames.{attribute_names}
use Rattle.ad_search_laws.proofs.told.the_attributes_that_are_told_have_the_names_that_are_listed.Goals as goal

pub returns : goal.returns
returns c = λ dir token number name. attribute_names dir token number name
