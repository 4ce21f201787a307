use Rattle.ad_search.proofs.TwoWorlds.{both_compare}
use Rattle.ad_search.proofs.comparing.compare.Goals as goal

pub returns-clause-two_worlds : goal.returns-clause-two_worlds
returns-clause-two_worlds c = both_compare c.compare_read.result c.args.dir.now c.args.token.now c.args.id
    c.args.request.now c.compare_read.ensures
