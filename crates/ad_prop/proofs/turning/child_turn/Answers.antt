use Rattle.std.proofs.Common.{List, ap, ◌∙◌}
use Rattle.std.specs.Prelude.{if◌then◌else◌}
use Rattle.prop_queue.specs.declared.pending.Pending.{Pending}
use Rattle.prop_queue.specs.Pending.{marked, advanced}
use Rattle.ad_sd.specs.declared.parts.Sd.{Sd}
use Rattle.ad_sd.specs.Normal.{SpellsNormal}
use Rattle.ad_dir_model.specs.Objects.{object_at, sd_at}
use Rattle.ad_dir_model.specs.Inheritance.{whole_at, settled}
use Rattle.ad_dir_model.proofs.Finding.{at_number}
use Rattle.std.proofs.Common.{subst}
use Rattle.ad_prop.proofs.StepLaws.{marked_as}
use Rattle.ad_prop.proofs.turning.child_turn.Goals as goal

pub returns-clause-queue : goal.returns-clause-queue
returns-clause-queue c =
    let dir = c.args.dir.now in
    let child = c.args.child in
    c.in_ok-mark_if.ensures
    ∙ ap (λ (ps : List Pending). if c.is_another.result then marked child ps else ps) c.advance.ensures
    ∙ marked_as (sd_at dir.objects child) (settled dir (object_at dir.objects child)) child c.is_another.result
    (advanced child c.args.queue.now)
    (at_number dir.objects child c.requires.child.live)
    (c.is_another.ensures (whole_at dir (object_at dir.objects child))
    (subst (λ (sd : Sd). SpellsNormal sd c.as_bytes.result.now) c.in_ok-sd.ensures c.as_bytes.ensures))
