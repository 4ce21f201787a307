use Rattle.std.proofs.Common.{ap, ◌∙◌}
use Rattle.ad_sd.specs.SdIn.{sd_in}
use Rattle.ad_sd.specs.Seen.{seen}
use Rattle.ad_sd.proofs.NormalReader.{spelled_in}
use Rattle.ad_inherit.proofs.repeated.bytes_of.Goals as goal

pub returns : goal.returns
returns c = ap sd_in c.in_ok-bytes.ensures.items ∙ spelled_in c.as_bytes.result.now (seen c.args.sd) c.as_bytes.ensures
