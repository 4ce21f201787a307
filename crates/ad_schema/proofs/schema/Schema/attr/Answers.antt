use Rattle.std.proofs.Common.{List, ◌<◌, length, sym, subst, ◌∙◌}
use Rattle.ad_schema.specs.declared.line.SchemaRecord.{SchemaRecord}
use Rattle.ad_schema.specs.Attributes.{attrs_of}
use Rattle.ad_schema.proofs.LookupLemmas.{attr_within}
use Rattle.ad_schema.proofs.schema.Schema.attr.Goals as goal

pub returns-in-Some-clause-in_range : goal.returns-in-Some-clause-in_range
returns-in-Some-clause-in_range c =
    subst (λ (rs : List SchemaRecord). c.in-Some.id < length (attrs_of rs)) c.self.view_is
    (attr_within c.self.inside.records.items c.self.inside.attr_names c.args.name.now c.in-Some.id
    c.self.invariant.links.attr_names_are (sym c.find.ensures ∙ c.in-Some.is))
