use Rattle.std.proofs.Common.{get_or, arith}
use Rattle.std.proofs.lemmas.List.{drop_more}
use Rattle.ad_ldap.specs.MessageValue.{search_seen}
use Rattle.ad_entries.specs.Places.{is_given_at}
use Rattle.ad_entries.proofs.PlaceLaws.{filter_more, filter_end}
use Rattle.ad_entries.proofs.places.push_each.Goals as goal

pub each-preserved : goal.each-preserved
each-preserved c =
    let search = search_seen c.args.asking.now.search.now in (
      filter_more (is_given_at c.args.asking.now.dir.now c.args.asking.now.token.now c.args.number search)
          c.args.these.now c.each.place-index (get_or c.args.these.now c.each.place-index 0) c.args.places.now.items
          c.each.places.items c.push_given.new.places.items
          (drop_more c.args.these.now c.each.place-index 0 c.each-test.true)
          c.each.invariant.0 c.in_ok-push_given.ensures.places,
      c.push_given.ensures.one,
    )

pub returns-clause-places : goal.returns-clause-places
returns-clause-places c =
    let search = search_seen c.args.asking.now.search.now in
    filter_end (is_given_at c.args.asking.now.dir.now c.args.asking.now.token.now c.args.number search)
    c.args.these.now c.each.place-index c.args.places.now.items c.each.places.items
    (omega (arith, c.each-test.false)) c.each.invariant.0
