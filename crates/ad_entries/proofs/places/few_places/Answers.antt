use Rattle.std.proofs.Common.{◌++◌, List, ℕ, ap, ◌∙◌}
use Rattle.std.specs.Prelude.{filter}
use Rattle.ad_ldap.specs.MessageValue.{search_seen}
use Rattle.ad_entries.specs.Places.{is_given_at}
use Rattle.ad_entries.proofs.PlaceLaws.{has_few}
use Rattle.ad_entries.proofs.places.few_places.Goals as goal

pub returns-clause-places : goal.returns-clause-places
returns-clause-places c =
    let dir = c.args.asking.now.dir.now in
    let token = c.args.asking.now.token.now in
    let search = search_seen c.args.asking.now.search.now in
    has_few dir token c.args.number search c.args.few.now
    c.push_each.new.places.items c.rise.new.numbers.items c.requires.few
    (c.in_ok-push_each.ensures.places ∙ ap (λ (old : List ℕ). old
    ++ filter (is_given_at dir token c.args.number search) c.args.few.now)
    c.new-places.ensures.items) c.rise.ensures.rises c.rise.ensures.same
