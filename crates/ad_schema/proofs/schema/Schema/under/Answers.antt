use Rattle.std.proofs.Common.{List, ap, ◌∙◌}
use Rattle.ad_schema.specs.declared.line.SchemaRecord.{SchemaRecord}
use Rattle.ad_schema.specs.Classes.{is_under}
use Rattle.ad_schema.proofs.SchemaLemmas.{is_under_is}
use Rattle.ad_schema.proofs.schema.Schema.under.Goals as goal

pub returns : goal.returns
returns c =
    c.is_under.ensures
    ∙ is_under_is c.self.inside.records.items c.as_slice.result.now c.args.child.0 c.args.parent.0
    (c.as_slice.ensures.value ∙ c.self.invariant.links.links_are)
    ∙ ap (λ (rs : List SchemaRecord). is_under rs c.args.child.0 c.args.parent.0) c.self.view_is
