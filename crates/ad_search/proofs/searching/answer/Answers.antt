use Rattle.ad_ldap.specs.MessageValue.{search_seen}
use Rattle.ad_search.proofs.TwoWorlds.{both_search}
use Rattle.ad_search.proofs.searching.answer.Goals as goal

pub returns-clause-two_worlds : goal.returns-clause-two_worlds
returns-clause-two_worlds c = both_search c.answer_read.result c.args.dir.now c.args.token.now c.args.id
    (search_seen c.args.search.now) c.args.flags c.answer_read.ensures.bytes
