use Rattle.ad_search.proofs.NeedLaws.{one_needed}
use Rattle.ad_search.proofs.index_plan.one_of.Goals as goal

pub returns : goal.returns
returns c = λ filter plans. one_needed c.args.dir.now filter c.args.needle c.in_ok-query.query plans
    c.in_ok-query.ensures
