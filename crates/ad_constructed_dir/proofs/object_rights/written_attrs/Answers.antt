use Rattle.std.proofs.Common.{◌∙◌}
use Rattle.ad_access_dir.proofs.AllowedLaws.{allowed_all}
use Rattle.ad_constructed_dir.proofs.object_rights.written_attrs.Goals as goal

pub attr_masks-requires-clause-attrs : goal.attr_masks-requires-clause-attrs
attr_masks-requires-clause-attrs c = allowed_all c.args.dir.now.schema c.args.class.0 c.as_slice.result.now
    (c.as_slice.ensures.value ∙ c.in_ok-attrs.ensures)
