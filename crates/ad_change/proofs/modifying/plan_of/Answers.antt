use Rattle.std.proofs.Common.{◌≡◌, ℕ, subst, ap, ◌∙◌}
use Rattle.ad_dir_objects.specs.Seen.{object_seen}
use Rattle.ad_dir_model.specs.Object.{Object}
use Rattle.ad_dir_model.specs.Objects.{sd_at}
use Rattle.ad_change.specs.Effects.{later_checks}
use Rattle.ad_change.specs.Modifying.{modified_object}
use Rattle.ad_change.specs.Judging.{AreNeeded, modify_edits}
use Rattle.ad_change.proofs.ResolvedValues.{modification}
use Rattle.ad_change.proofs.Lower.{reads_back}
use Rattle.ad_change.proofs.ModifyMade.{modified_is_put, modify_plan_is}
use Rattle.ad_change.proofs.modifying.plan_of.Goals as goal

pub judge_modify-requires : goal.judge_modify-requires
judge_modify-requires c =
    let is = modification c.args.dir.now c.args.token.now c.args.target c.args.items.now c.args.sd.now
    c.requires.sound c.requires.resolved in
    record {
      sound = c.requires.sound;
      live = is.live;
      attrs = is.within;
    }

pub edits_of-requires : goal.edits_of-requires
edits_of-requires c =
    let dir = c.args.dir.now in
    let is = modification dir c.args.token.now c.args.target c.args.items.now c.args.sd.now c.requires.sound
    c.requires.resolved in
    let put = modified_is_put dir c.args.target c.args.items.now
    (object_seen c.in-Ok.object (sd_at dir.objects c.args.target)) c.requires.sound
    is.live c.in-Ok.ensures.1.0 in
    record { live = put.live; class = put.class; parent = put.parent }

pub returns-in_ok-edits-in-Ok : goal.returns-in_ok-edits-in-Ok
returns-in_ok-edits-in-Ok c =
    let dir = c.args.dir.now in
    let items = c.args.items.now in
    let object = c.in-Ok.object in
    let edits = c.in_ok-edits-in-Ok.edits in
    let is = modification dir c.args.token.now c.args.target items c.args.sd.now c.requires.sound c.requires.resolved in
    let put = modified_is_put dir c.args.target items (object_seen object (sd_at dir.objects c.args.target))
    c.requires.sound
    is.live c.in-Ok.ensures.1.0 in
    let seen : object_seen object (sd_at dir.objects object.number) ≡ modified_object dir c.args.target items =
    ap (λ (n : ℕ). object_seen object (sd_at dir.objects n)) put.same ∙ c.in-Ok.ensures.1.0 in
    modify_plan_is reads_back dir c.args.token.now c.args.target items c.args.sd.now
    edits c.requires.sound is.live
    (is.attrs c.in-Ok.ensures.1.1) c.in-Ok.ensures.0
    (subst (λ (o : Object). AreNeeded dir (modify_edits dir o c.args.sd.now) edits) seen c.in_ok-edits-in-Ok.ensures)

pub returns-in_ok-code-in-Err : goal.returns-in_ok-code-in-Err
unfolding later_checks
returns-in_ok-code-in-Err c = rw c.in_ok-code-in-Err.ensures at c.in-Err.ensures
