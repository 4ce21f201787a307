use Rattle.std.proofs.Common.{map}
use Rattle.ad_dir_objects.specs.Seen.{stored_seen}
use Rattle.ad_change_values.proofs.SentLaws.{LeadTo}
use Rattle.ad_change_values.proofs.values.links_to.Given as goal

abbrev pub invariant-loop-text : goal.invariant-loop-text
invariant-loop-text l = LeadTo l.dir l.fn.attr.0 l.sent l.text-index (map stored_seen l.stored)
