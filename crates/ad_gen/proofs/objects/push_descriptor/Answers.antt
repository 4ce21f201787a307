use Rattle.ad_gen.specs.Objects.{descriptor_line}
use Rattle.ad_bytes.proofs.Appended.{then}
use Rattle.ad_gen.proofs.objects.push_descriptor.Goals as goal

pub returns : goal.returns
unfolding descriptor_line
returns c = then c.in_ok-push_sd.ensures c.in_ok-push_text.ensures
