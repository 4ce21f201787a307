use Rattle.std.proofs.Common.{◌∙◌, List, ap}
use Rattle.ad_schema.specs.declared.line.SchemaRecord.{SchemaRecord}
use Rattle.ad_schema.specs.Classes.{naming_of}
use Rattle.ad_schema.proofs.LookupLemmas.{class_naming}
use Rattle.ad_dir.proofs.live.naming_of.Goals as goal

pub returns-clause-naming : goal.returns-clause-naming
returns-clause-naming c =
    class_naming c.schema.result.now c.class_of.result.0 c.class_info.result.now c.class_info.ensures.info
    ∙ ap (λ (s : List SchemaRecord). naming_of s c.class_of.result.0) c.schema.ensures
    ∙ ap (naming_of c.args.dir.now.schema) c.class_of.ensures.class
