use Rattle.std.proofs.Common.{◌∙◌, List, ap}
use Rattle.ad_schema.specs.declared.line.SchemaRecord.{SchemaRecord}
use Rattle.ad_schema_defaults.specs.NewClass.{class_by_names}
use Rattle.ad_dir.proofs.NameLaws.{if_ok}
use Rattle.ad_needs.proofs.AddLaws.{class_ranges}
use Rattle.ad_needs.proofs.adding.new_class.Goals as goal

pub returns-clause-in_range : goal.returns-clause-in_range
returns-clause-in_range c =
    if_ok c.class_by_names.result
    (λ class is. class_ranges c.args.dir.now c.args.add.now class
    (is ∙ ap (λ (s : List SchemaRecord). class_by_names s c.class_names.result.now) c.schema.ensures
    ∙ ap (class_by_names c.args.dir.now.schema) c.class_names.ensures))
    c.class_by_names.ensures
