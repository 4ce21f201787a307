use Rattle.ad_ldap.specs.MessageValue.{search_seen}
use Rattle.ad_types.specs.Tried.{tried_values}
use Rattle.ad_search.proofs.ReadsLaws.{entry_ok}
use Rattle.ad_search.proofs.observing.push_entry.Goals as goal

pub returns : goal.returns
returns c =
    let dir = c.args.asking.now.dir.now in
    let token = c.args.asking.now.token.now in
    let search = search_seen c.args.asking.now.search.now in
    let flags = c.args.asking.now.flags in
    entry_ok c.push_descriptor.result dir token search flags
    c.args.number c.args.places.now
    (tried_values c.args.into.now.items) (tried_values c.push_reads.new.into.items)
    (tried_values c.push_descriptor.new.into.items)
    c.requires.places c.in_ok-push_reads.ensures c.push_descriptor.ensures
