use Rattle.std.proofs.Common.{◌∙◌, List, ap}
use Rattle.std.specs.Prelude.{codes}
use Rattle.ad_schema.specs.declared.line.SchemaRecord.{SchemaRecord}
use Rattle.ad_schema.specs.Attributes.{attr_named}
use Rattle.ad_needs.proofs.RenameLaws.{nameless}
use Rattle.ad_needs.proofs.renaming.unless_names.Goals as goal

pub returns-in-None-clause-refusal : goal.returns-in-None-clause-refusal
returns-in-None-clause-refusal c =
    nameless c.args.dir.now c.args.token.now c.args.number
    (rw c.in-None.is at c.attr.ensures.attr ∙ ap (λ (s : List SchemaRecord). attr_named s (codes "name"))
    c.schema.ensures)
