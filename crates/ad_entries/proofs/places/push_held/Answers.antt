use Rattle.std.proofs.Common.{map, arith}
use Rattle.std.proofs.lemmas.List.{length-map}
use Rattle.ad_ldap.specs.MessageValue.{search_seen}
use Rattle.ad_dir_objects.specs.Seen.{held_seen}
use Rattle.ad_dir_model.specs.Object.{Held}
use Rattle.ad_entries.specs.Places.{is_given_at}
use Rattle.ad_entries.proofs.ListLaws.{from_here}
use Rattle.ad_entries.proofs.PlaceLaws.{filter_more, filter_end, mapped_front}
use Rattle.ad_entries.proofs.places.push_held.Goals as goal

pub each-preserved : goal.each-preserved
each-preserved c =
    let search = search_seen c.args.asking.now.search.now in (
      filter_more (is_given_at c.args.asking.now.dir.now c.args.asking.now.token.now c.args.number search)
          (map (λ (held : Held). held.attr) (map held_seen c.args.values.now)) c.each.held-index
          (held_seen c.held-item.result).attr c.args.places.now.items c.each.places.items c.push_given.new.places.items
          (mapped_front (λ (held : Held). held.attr) c.each.held-index (held_seen c.held-item.result)
          (map held_seen c.args.values.now)
          (mapped_front held_seen c.each.held-index c.held-item.result c.args.values.now
          (from_here c.args.values.now c.each.held-index c.held-item.result c.each-test.true c.held-item.is)))
          c.each.invariant.0 c.in_ok-push_given.ensures.places,
      c.push_given.ensures.one,
    )

pub returns-clause-places : goal.returns-clause-places
returns-clause-places c =
    let all = map held_seen c.args.values.now in
    let search = search_seen c.args.asking.now.search.now in
    filter_end (is_given_at c.args.asking.now.dir.now c.args.asking.now.token.now c.args.number search)
    (map (λ (held : Held). held.attr) all) c.each.held-index c.args.places.now.items c.each.places.items
    (omega (
      arith,
      c.each-test.false,
      length-map all (λ (held : Held). held.attr),
      length-map c.args.values.now
          held_seen,
    )) c.each.invariant.0
