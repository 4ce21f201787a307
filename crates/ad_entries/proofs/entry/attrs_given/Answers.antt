use Rattle.std.proofs.Common.{◌≡◌, List, IfOk, subst}
use Rattle.ad_ldap.specs.MessageValue.{search_seen}
use Rattle.ad_entries.specs.Entry.{Given}
use Rattle.ad_entries.proofs.PlaceLaws.{given_at_places}
use Rattle.ad_entries.proofs.entry.attrs_given.Goals as goal

pub returns : goal.returns
returns c =
    subst (λ (given : List Given). IfOk c.attrs_shown.result (λ attrs. attrs ≡ given))
    (given_at_places c.args.asking.now.dir.now c.args.asking.now.token.now c.args.number
    (search_seen c.args.asking.now.search.now) c.args.places.now
    c.requires.places)
    c.attrs_shown.ensures
