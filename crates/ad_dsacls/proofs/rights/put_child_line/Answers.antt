use Rattle.std.proofs.Common.{List, ℕ, codes, ap, sym, ◌∙◌}
use Rattle.ad_acl.specs.Codes.{right_codes}
use Rattle.ad_sddl.specs.Canonical.{codes_text}
use Rattle.ad_types.specs.Path.{guids_of}
use Rattle.ad_dsacls.specs.Effective.{line_of, child_line}
use Rattle.ad_access_dir.specs.Labels.{label_of}
use Rattle.ad_bytes.proofs.Appended.{called, nothing}
use Rattle.ad_dsacls.proofs.EffectiveLaws.{put_as, child_is, child_none}
use Rattle.ad_dsacls.proofs.rights.put_child_line.Goals as goal

pub returns-then-not-is_child_class : goal.returns-then-not-is_child_class
returns-then-not-is_child_class c =
    let there = rw c.schema.ensures at c.class_info-info.ensures.info in
    let none = rw c.schema-2.ensures at c.if-not-is_child_class.ensures in
    called (child_none c.args.dir.now c.args.token.now c.args.number c.args.class c.args.child.0
    c.class_info-info.result.now there (sym none)) (nothing c.args.out.now.items)

pub returns : goal.returns
returns c =
    let there = rw c.schema.ensures at c.class_info-info.ensures.info in
    let some = rw c.schema-2.ensures at c.if-not-is_child_class.ensures in
    put_as c.put_named.result c.args.out.now.items c.put_named.new.out.items
    (line_of (label_of (codes "child ") c.as_slice.result.now) (codes_text right_codes c.mask_on-mask.result))
    (child_line c.args.dir.now c.args.token.now c.args.number c.args.class c.args.child.0)
    (ap (λ (name : List ℕ). line_of (label_of (codes "child ") name) (codes_text right_codes c.mask_on-mask.result))
    c.as_slice.ensures
    ∙ child_is c.args.dir.now c.args.token.now c.args.number c.mask_on-mask.result c.args.class c.args.child.0
    c.class_info-info.result.now (guids_of c.one.result) there (sym some) c.one.ensures
    c.mask_on-mask.ensures)
    c.put_named.ensures
