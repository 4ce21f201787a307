use Rattle.std.proofs.Common.{List, ◌++◌, [], ◌∷◌, ap, ◌∙◌}
use Rattle.std.specs.Prelude.{if◌then◌else◌}
use Rattle.prop_queue.specs.declared.pending.Pending.{Pending}
use Rattle.prop_queue.specs.Pending.{marked, advanced}
use Rattle.ad_dir_objects.specs.declared.edit.Edit.TheVariants as edit
use Rattle.ad_dir_objects.specs.declared.edit.Edit.{Edit}
use Rattle.ad_dir_objects.specs.declared.object.Object.{Object}
use Rattle.ad_dir_objects.specs.Seen.{object_seen}
use Rattle.ad_dir_model.specs.Objects.{object_at, sd_at}
use Rattle.ad_dir_model.specs.Inheritance.{whole_at, settled}
use Rattle.ad_dir_model.proofs.Finding.{at_number}
use Rattle.ad_prop.proofs.StepLaws.{child_made, marked_as}
use Rattle.ad_prop.proofs.stepping.child_edits.Goals as goal

pub returns-clause-edits : goal.returns-clause-edits
returns-clause-edits c =
    let dir = c.args.dir.now in
    let child = c.args.child in
    child_made dir child c.push.new.self.items c.in_ok-object.object c.in_ok-bytes.bytes
    (c.in_ok-push.ensures.items ∙ ap (λ (es : List Edit). es ++ edit.PutObject c.in_ok-object.object
    c.in_ok-bytes.bytes ∷ []) c.new-edits.ensures.items)
    (ap (λ (o : Object). object_seen o (sd_at dir.objects child)) c.in_ok-object.ensures ∙ c.live_object.ensures)
    c.in_ok-bytes.ensures

pub returns-clause-queue : goal.returns-clause-queue
returns-clause-queue c =
    let dir = c.args.dir.now in
    let child = c.args.child in
    c.in_ok-mark_if.ensures
    ∙ ap (λ (ps : List Pending). if c.is_another.result then marked child ps else ps) c.advance.ensures
    ∙ marked_as (sd_at dir.objects child) (settled dir (object_at dir.objects child)) child c.is_another.result
    (advanced child c.args.queue.now)
    (at_number dir.objects child c.requires.child.live)
    (c.is_another.ensures (whole_at dir (object_at dir.objects child))
    (c.in_ok-bytes.ensures.0, c.as_slice.ensures.value ∙ c.in_ok-bytes.ensures.1))
