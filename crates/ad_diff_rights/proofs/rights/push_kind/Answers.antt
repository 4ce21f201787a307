use Rattle.std.proofs.Common.{◌∙◌, [], ◌∷◌}
use Rattle.ad_acl.specs.Mask.{has_bit}
use Rattle.ad_types.specs.Path.{guids_of}
use Rattle.ad_access_dir.specs.Labels.{label_of, right_title}
use Rattle.ad_diff_rights.specs.Rights.{labels}
use Rattle.ad_diff_rights.specs.Asked.{grants_of}
use Rattle.ad_diff_rights.specs.Steps.{texts}
use Rattle.ad_diff_rights.proofs.Masks.{low}
use Rattle.ad_diff_rights.proofs.Labels.{put_as, kind_is}
use Rattle.ad_diff_rights.proofs.rights.push_kind.Goals as goal

pub push_labels-requires : goal.push_labels-requires
push_labels-requires c = low c.args.want c.args.codes.now c.requires.codes

pub returns : goal.returns
returns c =
    let grants = grants_of c.args.asked.now in
    let right = c.args.right.now in
    put_as c.push_labels.result (texts c.args.into.now.items) (texts c.push_labels.new.into.items)
    (labels (has_bit c.mask_on-mask.result) c.as_slice.result.now c.args.codes.now)
    (labels (grants (right.guid ∷ [])) (label_of c.args.kind.now (right_title right)) c.args.codes.now)
    (kind_is grants c.mask_on-mask.result c.args.codes.now c.args.want (guids_of c.one.result) right.guid
    c.args.kind.now (right_title right) c.as_slice.result.now c.one.ensures c.mask_on-mask.ensures c.requires.codes
    (c.as_slice.ensures.value ∙ c.in_ok-label.ensures))
    c.push_labels.ensures
