use Rattle.ad_change.proofs.AddLaws.{sid_attr_within}
use Rattle.ad_change.proofs.new_object.new_sid.Goals as goal

pub if_must-requires-clause-attr : goal.if_must-requires-clause-attr
if_must-requires-clause-attr c = sid_attr_within c.args.dir.now.schema c.schema-schema.result.now c.in-Some.attr
    c.schema-schema.ensures c.in-Some.ensures
