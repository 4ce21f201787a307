use Rattle.std.proofs.Common.{subst, ap, ◌∙◌}
use Rattle.std.specs.Prelude.{IfOk}
use Rattle.ad_sd.specs.declared.parts.Sd.{Sd}
use Rattle.ad_dir_objects.specs.Seen.{object_seen}
use Rattle.ad_dir_model.specs.Edits.{change_edits, write_edits}
use Rattle.ad_change.specs.Modifying.{with_parts}
use Rattle.ad_change.specs.Judging.{AreNeeded}
use Rattle.ad_change.proofs.modifying.edits_of.Goals as goal

pub returns-in-None : goal.returns-in-None
returns-in-None c =
    rw c.in-None.is (subst (λ (x : Sd). IfOk c.put_edits.result
    (λ edits. AreNeeded c.args.dir.now (change_edits (object_seen c.args.object x)) edits))
    c.live_sd-stored.ensures c.put_edits.ensures)

pub returns-in_ok-own-in-Some : goal.returns-in_ok-own-in-Some
returns-in_ok-own-in-Some c =
    rw c.in-Some.is (subst (λ (x : Sd). IfOk c.write_edits.result
    (λ edits. AreNeeded c.args.dir.now (write_edits c.args.dir.now (object_seen c.args.object x)) edits))
    (c.view.ensures ∙ c.in_ok-own-in-Some.ensures ∙ ap (with_parts c.in-Some.parts) c.live_sd-stored.ensures)
    c.write_edits.ensures)
