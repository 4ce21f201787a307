use Rattle.ad_search.proofs.NeedLaws.{all_needed}
use Rattle.ad_search.proofs.index_plan.all_of.Goals as goal

pub returns : goal.returns
returns c = λ dir filter all. all_needed dir filter c.args.plans all
