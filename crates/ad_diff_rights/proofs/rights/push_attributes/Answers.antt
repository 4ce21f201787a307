use Rattle.std.proofs.Common.{◌≡◌, ◌+◌, ◌-◌, ◌<◌, ℕ, List, Some, length, get_or, sym, ap, subst, ◌∙◌, arith}
use Rattle.std.specs.Prelude.{slice_get}
use Rattle.std.proofs.lemmas.Option.{slice_get-get_or}
use Rattle.ad_schema.specs.declared.line.SchemaRecord.{SchemaRecord}
use Rattle.ad_schema.specs.declared.info.AttrId.{AttrId}
use Rattle.ad_types.specs.TypesOf.{path_of}
use Rattle.ad_access_dir.specs.Masks.{IsMask}
use Rattle.ad_access_dir.proofs.AllowedLaws.{allowed_all}
use Rattle.ad_diff_rights.specs.Rights.{attribute_labels}
use Rattle.ad_diff_rights.specs.Asked.{grants_of}
use Rattle.ad_diff_rights.specs.Steps.{texts, masked_attribute}
use Rattle.ad_diff_rights.proofs.Masks.{masked_is, flat_more}
use Rattle.ad_diff_rights.proofs.rights.push_attributes.Goals as goal

pub attr_masks-requires-clause-attrs : goal.attr_masks-requires-clause-attrs
attr_masks-requires-clause-attrs c = allowed_all c.args.asked.now.dir.now.schema c.args.class.0 c.args.attrs.now
    c.requires.allowed

pub push_attribute-requires : goal.push_attribute-requires
push_attribute-requires c =
    let none : AttrId = record { 0 = 0 } in
    let within : c.each.i < length c.args.attrs.now = omega arith in
    rw c.schema.ensures (allowed_all c.args.asked.now.dir.now.schema c.args.class.0 c.args.attrs.now
    c.requires.allowed c.each.i none within)

pub each-preserved : goal.each-preserved
each-preserved c =
    let none : AttrId = record { 0 = 0 } in
    let within : c.each.i < length c.args.attrs.now = omega arith in
    let attr : AttrId = get_or c.args.attrs.now c.each.i none in
    let there : slice_get c.args.attrs.now c.each.i ≡ Some attr = slice_get-get_or c.args.attrs.now c.each.i none
    within in
    let mask : ℕ = get_or c.as_slice-masks.result.now ((length c.as_slice-masks.result.now - length c.args.attrs.now)
    + c.each.i) 0 in
    let grants = grants_of c.args.asked.now in
    let is : IsMask 0x130 (grants (path_of c.args.asked.now.dir.now.schema c.args.class attr)) mask =
    subst (λ (masks : List ℕ). IsMask 0x130 (grants (path_of c.args.asked.now.dir.now.schema c.args.class attr))
    (get_or masks ((length masks - length c.args.attrs.now) + c.each.i) 0))
    (sym c.as_slice-masks.ensures.value) (c.in_ok-masks.ensures.granted c.each.i attr there) in
    flat_more (attribute_labels c.args.asked.now.dir.now.schema (grants_of c.args.asked.now) c.args.class)
    c.args.attrs.now c.each.i
    none (texts c.args.into.now.items) (texts c.each.into.items) (texts c.push_attribute.new.into.items)
    (masked_attribute c.schema.result.now attr mask) within c.each.invariant
    (ap (λ (schema : List SchemaRecord). masked_attribute schema attr mask) c.schema.ensures ∙ masked_is
    c.args.asked.now.dir.now.schema grants c.args.class attr mask is)
    c.in_ok-push_attribute.ensures
