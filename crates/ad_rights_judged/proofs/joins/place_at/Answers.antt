use Rattle.std.proofs.Common.{sym}
use Rattle.ad_rights_judged.proofs.Keeping.{join_known_at, if_fits}
use Rattle.ad_rights_judged.proofs.joins.place_at.Goals as goal

pub returns-in-Some : goal.returns-in-Some
returns-in-Some c = λ sets all.
    if_fits c.fits.result c.in-Some.join.place _ c.place_if.result c.place_if.ensures (λ is.
    join_known_at sets c.args.known.now c.args.at c.in-Some.join c.args.all c.args.first c.args.second all
    (sym c.in-Some.ensures) (c.fits.ensures is))
