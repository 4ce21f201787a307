use Rattle.std.proofs.Common.{List, ap, ◌∙◌}
use Rattle.ad_schema.specs.declared.line.SchemaRecord.{SchemaRecord}
use Rattle.ad_schema.specs.Meaning.{is_in_chain}
use Rattle.ad_schema.proofs.LookupLemmas.{in_chain_is}
use Rattle.ad_schema.proofs.schema.Schema.in_chain.Goals as goal

pub returns : goal.returns
returns c =
    c.is_above.ensures
    ∙ in_chain_is c.self.inside.records.items c.as_slice.result.now c.args.class.0 c.args.superior.0
    (c.as_slice.ensures.value ∙ c.self.invariant.links.links_are)
    ∙ ap (λ (rs : List SchemaRecord). is_in_chain rs c.args.class.0 c.args.superior.0) c.self.view_is
