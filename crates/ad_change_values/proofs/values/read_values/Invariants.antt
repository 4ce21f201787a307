use Rattle.ad_change_values.proofs.SentLaws.{AreReadTo}
use Rattle.ad_change_values.proofs.values.read_values.Given as goal

abbrev pub invariant-loop-bytes : goal.invariant-loop-bytes
invariant-loop-bytes l = AreReadTo l.schema l.attr.0 l.sent l.bytes-index l.short l.read
