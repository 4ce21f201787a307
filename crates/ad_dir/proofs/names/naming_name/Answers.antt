use Rattle.std.proofs.Common.{◌∙◌, sym, subst}
use Rattle.ad_dn.specs.AttributeType.{IsType}
use Rattle.ad_dir_objects.proofs.AttrNames.{naming_at}
use Rattle.ad_dir.proofs.SchemaNames.{type_at}
use Rattle.ad_dir.proofs.names.naming_name.Goals as goal

pub returns-clause-name : goal.returns-clause-name
returns-clause-name c = c.as_slice.ensures ∙ naming_at c.args.schema.now c.args.class.0 c.class_info.result.now
    c.attr_info.result.now c.class_info.ensures.info c.attr_info.ensures

pub returns-clause-form : goal.returns-clause-form
returns-clause-form c = subst IsType (sym c.as_slice.ensures)
    (type_at c.args.schema.now c.class_info.result.now.naming.0 c.attr_info.result.now c.make_schema.ensures
    c.attr_info.ensures)
