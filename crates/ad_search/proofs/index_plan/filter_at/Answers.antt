use Rattle.ad_filter.proofs.Walks.{less_deep}
use Rattle.ad_search.proofs.index_plan.filter_at.Goals as goal

pub returns-clause-less_deep : goal.returns-clause-less_deep
returns-clause-less_deep c = less_deep c.args.filters.now c.args.i c.index-filters-i.result c.requires
    c.index-filters-i.is
