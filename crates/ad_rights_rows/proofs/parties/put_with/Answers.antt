use Rattle.std.proofs.Common.{◌≡◌, List, sym, subst}
use Rattle.ad_ids.specs.declared.token.Token.{Token}
use Rattle.ad_identities.specs.declared.identity.Identity.{Identity}
use Rattle.std.proofs.Common.{◌∷◌, [], ◌++◌}
use Rattle.ad_rights_rows.specs.Rows.{AreParties}
use Rattle.ad_rights_rows.proofs.Listing.{with_more}
use Rattle.ad_rights_rows.proofs.parties.put_with.Goals as goal

pub returns-clause-added : goal.returns-clause-added
returns-clause-added c = λ done was.
    let p = c.args.parties.now in
    let more = with_more c.args.dir.now done p.members.items p.tokens.all.items p.without.items c.args.identity.now
    c.args.token was c.requires.token in
    subst (λ (l : List Identity). AreParties c.args.dir.now (done ++ c.args.identity.now ∷ []) l c.add.new.self.all.items
    p.without.items) (sym c.in_ok-push.ensures.items)
    (subst (λ (l : List Token). AreParties c.args.dir.now (done ++ c.args.identity.now ∷ [])
    (p.members.items ++ c.args.identity.now ∷ []) l p.without.items) (sym c.in_ok-add.ensures.all) more)
