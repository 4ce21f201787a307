use Rattle.std.proofs.Common.{List, ap, ◌∙◌}
use Rattle.ad_schema.specs.declared.line.SchemaRecord.{SchemaRecord}
use Rattle.ad_schema.specs.Classes.{is_a}
use Rattle.ad_schema.proofs.SchemaLemmas.{is_a_is}
use Rattle.ad_schema.proofs.schema.Schema.is_a.Goals as goal

pub returns : goal.returns
returns c =
    c.is_a.ensures
    ∙ is_a_is c.self.inside.records.items c.as_slice.result.now c.args.guid.now c.args.class.0
    (c.as_slice.ensures.value ∙ c.self.invariant.links.links_are)
    ∙ ap (λ (rs : List SchemaRecord). is_a rs c.args.class.0 c.args.guid.now) c.self.view_is
