use Rattle.ad_gen.specs.Objects.{containers}
use Rattle.ad_bytes.proofs.Appended.{then}
use Rattle.ad_gen.proofs.objects.push_containers.Goals as goal

pub returns : goal.returns
unfolding containers
returns c = then c.in_ok-push_text.ensures c.in_ok-push_descriptor.ensures
