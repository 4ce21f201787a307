use Rattle.std.proofs.Common.{◌∙◌, sym}
use Rattle.ad_sd.proofs.NormalReader.{over_none}
use Rattle.ad_sd.proofs.normal_sd.NormalSd.from_bytes.Goals as goal

pub returns-then-not-is_normal : goal.returns-then-not-is_normal
returns-then-not-is_normal c = λ sd s. over_none c.args.bytes.now c.is_normal.result sd c.is_normal.ensures
    (c.is_normal.ensures ∙ sym c.if-not-is_normal.ensures) s
