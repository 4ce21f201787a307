use Rattle.std.proofs.Common.{false, refl}
use Rattle.std.proofs.lemmas.Bool.{both_ways}
use Rattle.ad_search.proofs.parents.no_parent.Goals as goal

pub returns : goal.returns
returns c = λ token. record {
  mode = c.list_mode.ensures;
  each = λ known number below is_parent. absurd (both_ways false refl known);
}
