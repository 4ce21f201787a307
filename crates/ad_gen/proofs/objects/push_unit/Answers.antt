use Rattle.ad_gen.specs.Objects.{unit}
use Rattle.ad_bytes.proofs.Appended.{then}
use Rattle.ad_gen.proofs.objects.push_unit.Goals as goal

pub returns : goal.returns
unfolding unit
returns c = then c.in_ok-push_text.ensures (then c.in_ok-push_number.ensures c.in_ok-push_text-2.ensures)
