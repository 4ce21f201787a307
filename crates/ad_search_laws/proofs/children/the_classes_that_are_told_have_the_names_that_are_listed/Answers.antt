use Rattle.ad_search_laws.proofs.ListedNames.{child_names}
use Rattle.ad_search_laws.proofs.children.the_classes_that_are_told_have_the_names_that_are_listed.Goals as goal

pub returns : goal.returns
returns c = λ dir token number name. child_names dir token number name
