use Rattle.std.proofs.Common.{◌∙◌, sym, subst}
use Rattle.std.proofs.lemmas.Slice.Eq.{bytes_eq-Decides}
use Rattle.ad_sd.specs.Normal.{SpellsNormal}
use Rattle.ad_rows.proofs.Codec.{sd_is}
use Rattle.ad_rows.proofs.descriptors.known.Goals as goal

pub returns-then-eq : goal.returns-then-eq
returns-then-eq c =
    let sd = c.in-Some.sd in
    let same = (bytes_eq-Decides c.as_bytes.result.now c.args.bytes.now).0 (sym c.eq.ensures ∙ c.if-eq.true) in
    sd_is sd c.args.bytes.now (subst (SpellsNormal sd) same c.as_bytes.ensures)
