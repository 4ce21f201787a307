use Rattle.std.proofs.Common.{◌≡◌, ℕ, ap, sym, subst, ◌∙◌}
use Rattle.std.specs.Prelude.{IfOk}
use Rattle.ad_sd.specs.declared.parts.Sd.{Sd}
use Rattle.ad_sd.specs.Seen.{seen}
use Rattle.ad_inherit.specs.Whole.{whole}
use Rattle.ad_prop.proofs.ChildLaws.{same_whole}
use Rattle.ad_dir_model.specs.Object.{Object}
use Rattle.ad_dir_model.specs.Objects.{object_at, sd_at}
use Rattle.ad_dir_model.specs.Inheritance.{whole_at, guid_at}
use Rattle.ad_dir_model.proofs.Finding.{at_number}
use Rattle.ad_dir_model.proofs.Inheriting.{whole_below}
use Rattle.ad_prop.proofs.turning.whole_of.Goals as goal

pub returns : goal.returns
returns c =
    let objects = c.args.dir.now.objects in
    let o : Object = object_at objects c.args.child in
    let parent = ap (λ (x : Object). x.parent) c.live_object-object.ensures in
    let class = ap (λ (x : Object). x.class) c.live_object-object.ensures in
    let from_parent = c.live_sd-above.ensures ∙ ap (sd_at objects) parent in
    let guid = c.guid_of-class.ensures ∙ ap (λ (k : ℕ). guid_at c.schema.result.now k) class
    ∙ ap (λ (schema : _). guid_at schema o.class) c.schema.ensures in
    let is : whole (seen c.live_sd-above.result) (seen c.live_sd.result) c.guid_of-class.result
    ≡ whole_at c.args.dir.now o =
    same_whole (seen c.live_sd-above.result) (sd_at objects o.parent) (seen c.live_sd.result) o.sd
    c.guid_of-class.result (guid_at c.args.dir.now.schema o.class) from_parent c.live_sd.ensures guid
    ∙ sym (whole_below c.args.dir.now o (λ e.
    c.requires.below (sym (at_number objects c.args.child c.requires.live) ∙ e))) in
    subst (λ (sd : Sd). IfOk c.whole_again.result (λ made. made ≡ sd)) is c.whole_again.ensures
