use Rattle.std.proofs.Common.{◌<◌, sym, subst, codes}
use Rattle.std.specs.Prelude.{All}
use Rattle.ad_acl.specs.Mask.{has_bit}
use Rattle.ad_types.specs.Path.{guids_of}
use Rattle.ad_acl.specs.declared.codes.Code.{Code}
use Rattle.ad_diff_rights.specs.Rights.{labels, object_codes, object_labels}
use Rattle.ad_diff_rights.specs.Asked.{grants_of}
use Rattle.ad_diff_rights.specs.Steps.{texts}
use Rattle.ad_diff_rights.proofs.Masks.{low, object_wanted}
use Rattle.ad_diff_rights.proofs.Labels.{put_as, object_is}
use Rattle.ad_diff_rights.proofs.rights.push_object.Goals as goal

pub push_labels-requires : goal.push_labels-requires
push_labels-requires c = subst (All (λ (code : Code). code.place < 32)) (sym c.object_codes.ensures)
    (low 0xf01ff object_codes object_wanted)

pub returns : goal.returns
returns c =
    let grants = grants_of c.args.asked.now in
    put_as c.push_labels.result (texts c.args.into.now.items) (texts c.push_labels.new.into.items)
    (labels (has_bit c.mask_on-mask.result) (codes "object ") c.object_codes.result.now) (object_labels grants)
    (object_is grants c.mask_on-mask.result c.object_codes.result.now (guids_of c.empty.result) c.empty.ensures
    c.mask_on-mask.ensures c.object_codes.ensures)
    c.push_labels.ensures
