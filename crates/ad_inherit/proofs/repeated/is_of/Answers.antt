use Rattle.std.proofs.Common.{sym, ap, ◌∙◌}
use Rattle.std.proofs.lemmas.Slice.Eq.{bytes_eq-Decides}
use Rattle.ad_sd.specs.SdIn.{sd_in}
use Rattle.ad_sd.specs.Seen.{seen}
use Rattle.ad_sd.proofs.NormalReader.{spelled_in}
use Rattle.ad_inherit.proofs.repeated.is_of.Goals as goal

pub returns : goal.returns
returns c = λ e.
    let same = (bytes_eq-Decides c.as_slice.result.now c.as_bytes.result.now).0 (sym c.eq.ensures ∙ e) in
    ap sd_in (sym c.as_slice.ensures.value) ∙ ap sd_in same
    ∙ spelled_in c.as_bytes.result.now (seen c.args.sd) c.as_bytes.ensures
