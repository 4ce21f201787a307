use Rattle.std.proofs.Common.{sym}
use Rattle.ad_load_objects.specs.Objects.{with_line}
use Rattle.ad_load_objects.proofs.values.take_line.Goals as goal

pub returns-clause-made : goal.returns-clause-made
unfolding with_line
returns-clause-made c = rw (sym c.if-is_descriptor.ensures) c.take_ordinary.ensures.made
