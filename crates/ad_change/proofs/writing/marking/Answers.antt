use Rattle.std.proofs.Common.{List, ◌++◌, ◌∷◌, [], ap, ◌∙◌}
use Rattle.std.specs.Prelude.{if◌then◌else◌}
use Rattle.prop_queue.specs.declared.pending.Pending.{Pending}
use Rattle.prop_queue.specs.Pending.{marked}
use Rattle.ad_sd.specs.declared.parts.Sd.{Sd}
use Rattle.ad_dir_objects.specs.declared.edit.Edit.{Edit}
use Rattle.ad_dir_objects.specs.declared.edit.Edit.TheVariants as edit
use Rattle.ad_dir_objects.specs.Seen.{object_seen}
use Rattle.ad_dir_model.specs.Inheritance.{whole_at}
use Rattle.ad_change.proofs.WriteLaws.{write_made}
use Rattle.ad_change.proofs.writing.marking.Goals as goal

pub returns : goal.returns
returns c = λ (own : Sd) spelled.
    let dir = c.args.dir.now in
    write_made dir c.push-2.new.self c.args.object own c.args.bytes c.into_entries.result c.is_another.result
    (c.in_ok-push-2.ensures.ok ∙ ap (λ (es : List Edit). es ++ edit.PutQueue c.into_entries.result ∷ [])
    (c.in_ok-push.ensures.ok
    ∙ ap (λ (es : List Edit). es ++ edit.PutObject c.args.object c.args.bytes ∷ []) c.new-edits.ensures))
    spelled
    (c.is_another.ensures (whole_at dir (object_seen c.args.object own))
    (spelled.0, c.as_slice.ensures.value ∙ spelled.1))
    (c.into_entries.ensures.entries ∙ c.in_ok-mark_if.ensures
    ∙ ap (λ (ps : List Pending). if c.is_another.result then marked c.args.object.number ps else ps)
    (c.in_ok-queue.ensures ∙ c.queue.ensures))
