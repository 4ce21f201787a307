use Rattle.std.proofs.Common.{◌∙◌}
use Rattle.ad_dir_objects.proofs.AttrNames.{name_at}
use Rattle.ad_load_objects.proofs.attributes.own_name.Goals as goal

pub returns : goal.returns
returns c = c.as_slice.ensures ∙ name_at c.args.schema.now c.args.attr.0 c.attr_info.result.now c.attr_info.ensures
