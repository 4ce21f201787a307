use Rattle.std.proofs.Common.{◌≡◌, List, ap, sym, subst, ◌∙◌}
use Rattle.std.specs.Prelude.{IfOk}
use Rattle.ad_ids.specs.declared.guid.Guid.{Guid}
use Rattle.ad_sd.specs.declared.parts.Sd.{Sd}
use Rattle.ad_sd.specs.Normal.{SpellsNormal}
use Rattle.ad_sd.specs.Seen.{seen}
use Rattle.ad_schema.specs.declared.line.SchemaRecord.{SchemaRecord}
use Rattle.ad_inherit.specs.Whole.{whole}
use Rattle.ad_dir_objects.specs.Seen.{object_seen}
use Rattle.ad_dir_model.specs.Object.{Object}
use Rattle.ad_dir_model.specs.Objects.{sd_at}
use Rattle.ad_dir_model.specs.Inheritance.{whole_at, guid_at}
use Rattle.ad_dir_model.proofs.Inheriting.{whole_below, whole_root}
use Rattle.ad_change.proofs.writing.whole_of.Goals as goal

pub returns-then-object-eq-ROOT : goal.returns-then-object-eq-ROOT
returns-then-object-eq-ROOT c =
    let o : Object = object_seen c.args.object.now (seen c.args.own) in
    let is : c.in_ok-sd.sd ≡ whole_at c.args.dir.now o =
    c.in_ok-sd.ensures ∙ sym (whole_root c.args.dir.now o c.if-object-eq-ROOT.true) in
    subst (λ (sd : Sd). IfOk c.normal.result (λ bytes. SpellsNormal sd bytes.items)) is c.normal.ensures

pub returns : goal.returns
returns c =
    let dir = c.args.dir.now in
    let o : Object = object_seen c.args.object.now (seen c.args.own) in
    let guid = c.guid_of-class.ensures ∙ ap (λ (schema : List SchemaRecord). guid_at schema o.class) c.schema.ensures in
    let is : c.in_ok-sd-2.sd ≡ whole_at dir o =
    c.in_ok-sd-2.ensures
    ∙ ap (λ (above : Sd). whole above o.sd c.guid_of-class.result) c.live_sd.ensures
    ∙ ap (λ (class : Guid). whole (sd_at dir.objects o.parent) o.sd class) guid
    ∙ sym (whole_below dir o c.if-object-eq-ROOT.false) in
    subst (λ (sd : Sd). IfOk c.normal-2.result (λ bytes. SpellsNormal sd bytes.items)) is c.normal-2.ensures
