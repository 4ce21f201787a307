use Rattle.std.proofs.Common.{◌∙◌, ◌<◌, sym, ap, subst, codes}
use Rattle.std.specs.Prelude.{All}
use Rattle.ad_acl.specs.Mask.{has_bit}
use Rattle.ad_access_dir.specs.Labels.{label_of}
use Rattle.ad_acl.specs.declared.codes.Code.{Code}
use Rattle.ad_diff_rights.specs.Rights.{labels, attribute_codes}
use Rattle.ad_diff_rights.specs.Steps.{texts, masked_attribute}
use Rattle.ad_diff_rights.proofs.Masks.{low, attribute_wanted}
use Rattle.ad_diff_rights.proofs.Labels.{put_as, attribute_is}
use Rattle.ad_diff_rights.proofs.rights.push_attribute.Goals as goal

pub push_labels-requires : goal.push_labels-requires
push_labels-requires c = subst (All (λ (code : Code). code.place < 32)) (sym c.attribute_codes.ensures)
    (low 0x130 attribute_codes attribute_wanted)

pub returns : goal.returns
returns c =
    put_as c.push_labels.result (texts c.args.into.now.items) (texts c.push_labels.new.into.items)
    (labels (has_bit c.args.mask) c.as_slice-2.result.now c.attribute_codes.result.now)
    (masked_attribute c.args.schema.now c.args.attr c.args.mask)
    (attribute_is c.args.schema.now c.args.attr c.args.mask c.attr_info-info.result.now c.as_slice-2.result.now
    c.attribute_codes.result.now c.attr_info-info.ensures
    (c.as_slice-2.ensures.value ∙ c.in_ok-kind.ensures ∙ ap (label_of (codes "attribute ")) c.as_slice.ensures)
    c.attribute_codes.ensures)
    c.push_labels.ensures
