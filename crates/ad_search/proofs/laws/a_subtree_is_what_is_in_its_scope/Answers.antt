use Rattle.ad_search.proofs.ScopeLaws.{subtree_scope}
use Rattle.ad_search.proofs.laws.a_subtree_is_what_is_in_its_scope.Goals as goal

pub returns : goal.returns
returns c = λ dir n m base. subtree_scope dir n m base
