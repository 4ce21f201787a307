use Rattle.ad_needs_rules.proofs.DescriptorLaws.{asked_by}
use Rattle.ad_needs_rules.proofs.descriptor.asked_parts.Goals as goal

pub returns : goal.returns
returns c = asked_by c.args.flags c.args.parts c.sid_if.result c.sid_if-2.result c.list_if.result c.list_if-2.result
    c.sid_if.ensures c.sid_if-2.ensures c.list_if.ensures c.list_if-2.ensures
