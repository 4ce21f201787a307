use Rattle.std.proofs.Common.{◌∙◌, ℕ, List, ◌++◌, ◌<◌, sym, ap, subst, codes}
use Rattle.std.specs.Prelude.{All}
use Rattle.std.proofs.lemmas.List.{append-nil}
use Rattle.ad_acl.specs.Mask.{has_bit}
use Rattle.ad_types.specs.Path.{guids_of}
use Rattle.ad_access_dir.specs.Labels.{label_of}
use Rattle.ad_acl.specs.declared.codes.Code.{Code}
use Rattle.ad_diff_rights.specs.Rights.{labels, child_codes, child_labels}
use Rattle.ad_diff_rights.specs.Asked.{grants_of}
use Rattle.ad_diff_rights.specs.Steps.{texts}
use Rattle.ad_diff_rights.proofs.Masks.{low, child_wanted}
use Rattle.ad_diff_rights.proofs.Labels.{put_as, child_is, child_none}
use Rattle.ad_diff_rights.proofs.rights.push_child.Goals as goal

pub push_labels-requires : goal.push_labels-requires
push_labels-requires c = subst (All (λ (code : Code). code.place < 32)) (sym c.child_codes.ensures)
    (low 0x3 child_codes child_wanted)

pub returns-then-not-is_child_class : goal.returns-then-not-is_child_class
returns-then-not-is_child_class c =
    let there = rw c.schema.ensures at c.class_info-info.ensures.info in
    let none = rw c.schema-2.ensures at c.if-not-is_child_class.ensures in
    sym (append-nil (texts c.args.into.now.items))
    ∙ ap (λ (t : List (List ℕ)). texts c.args.into.now.items ++ t)
    (child_none c.args.asked.now.dir.now.schema (grants_of c.args.asked.now) c.args.class
    c.args.child.0 c.class_info-info.result.now there (sym none))

pub returns : goal.returns
returns c =
    let grants = grants_of c.args.asked.now in
    let there = rw c.schema.ensures at c.class_info-info.ensures.info in
    let some = rw c.schema-2.ensures at c.if-not-is_child_class.ensures in
    put_as c.push_labels.result (texts c.args.into.now.items) (texts c.push_labels.new.into.items)
    (labels (has_bit c.mask_on-mask.result) c.as_slice-2.result.now c.child_codes.result.now)
    (child_labels c.args.asked.now.dir.now.schema grants c.args.class c.args.child.0)
    (child_is grants c.mask_on-mask.result c.child_codes.result.now c.args.asked.now.dir.now.schema c.args.class
    c.args.child.0 c.class_info-info.result.now (guids_of c.one.result) c.as_slice-2.result.now there (sym some)
    c.one.ensures c.mask_on-mask.ensures
    (c.as_slice-2.ensures.value ∙ c.in_ok-kind.ensures ∙ ap (label_of (codes "child ")) c.as_slice.ensures)
    c.child_codes.ensures)
    c.push_labels.ensures
