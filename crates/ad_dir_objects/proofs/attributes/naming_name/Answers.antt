use Rattle.std.proofs.Common.{◌∙◌}
use Rattle.ad_dir_objects.proofs.AttrNames.{naming_at}
use Rattle.ad_dir_objects.proofs.attributes.naming_name.Goals as goal

pub returns : goal.returns
returns c = c.as_slice.ensures
    ∙ naming_at c.args.schema.now c.args.class.0 c.class_info.result.now c.attr_info.result.now
    c.class_info.ensures.info c.attr_info.ensures
