use Rattle.std.proofs.Common.{◌≡◌, List, ◌∷◌, [], ◌++◌, sym, subst}
use Rattle.ad_identities.specs.declared.identity.Identity.{Identity}
use Rattle.ad_identities.specs.Identities.{IsIdentityFault}
use Rattle.ad_rights_rows.specs.Rows.{AreParties}
use Rattle.ad_rights_rows.proofs.Listing.{without_more}
use Rattle.ad_rights_rows.proofs.parties.put.Goals as goal

pub returns-in_ok-push-in-Err-TooMany-clause-added : goal.returns-in_ok-push-in-Err-TooMany-clause-added
returns-in_ok-push-in-Err-TooMany-clause-added c = λ done was.
    let p = c.args.parties.now in
    subst (λ (l : List Identity). AreParties c.args.dir.now (done ++ c.args.identity.now ∷ []) p.members.items
    p.tokens.all.items l) (sym c.in_ok-push-in-Err-TooMany.ensures.items)
    (without_more c.args.dir.now done p.members.items p.tokens.all.items p.without.items c.args.identity.now was
    (subst (IsIdentityFault c.args.dir.now c.args.identity.now) c.in-Err-TooMany.field-0-is
    c.in-Err-TooMany.ensures.fault))
