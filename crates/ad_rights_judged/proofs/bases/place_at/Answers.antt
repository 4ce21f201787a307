use Rattle.std.proofs.Common.{sym}
use Rattle.ad_types.specs.Path.{guids_of}
use Rattle.ad_rights_judged.proofs.Keeping.{known_at, if_fits}
use Rattle.ad_rights_judged.proofs.bases.place_at.Goals as goal

pub returns-in-Some : goal.returns-in-Some
returns-in-Some c = λ tokens sets all.
    if_fits c.fits.result c.in-Some.base.place _ c.place_if.result c.place_if.ensures (λ is.
    known_at c.args.dir.now tokens sets c.args.known.now c.args.at c.in-Some.base c.args.object c.args.bit
    (guids_of c.args.path.now) all (sym c.in-Some.ensures) (c.fits.ensures is))
