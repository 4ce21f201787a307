use Rattle.ad_ldap.specs.MessageValue.{search_seen}
use Rattle.ad_entries.proofs.judged.places_judged.Goals as goal

pub returns-clause-kinds : goal.returns-clause-kinds
returns-clause-kinds c = record {
  asked = c.requires.kinds.asked;
  judged = c.in_ok-put_back.ensures c.args.asking.now.dir.now c.args.asking.now.token.now
      (search_seen c.args.asking.now.search.now) c.in_ok-places.ensures.one.judged c.in_ok-one.ensures.judged;
}
