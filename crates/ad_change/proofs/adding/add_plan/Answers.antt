use Rattle.std.proofs.Common.{◌≡◌, ℕ, ◌<◌, length, true, sym, subst}
use Rattle.std.specs.Prelude.{is_some}
use Rattle.ad_schema.specs.Classes.{classes_of}
use Rattle.ad_dir_model.specs.Objects.{is_live}
use Rattle.ad_dir_model.specs.Changes.{new_sid}
use Rattle.ad_dir_model.specs.Limits.{max_counter}
use Rattle.ad_change.specs.Adding.{new_object}
use Rattle.ad_change.specs.Effects.{later_checks}
use Rattle.ad_change.proofs.AddMay.{addition_is, counters_fit, new_own, new_place, new_place_back}
use Rattle.ad_change.proofs.Lower.{reads_back, sids_read}
use Rattle.ad_change.proofs.ResolvedValues.{addition}
use Rattle.ad_change.proofs.adding.add_plan.Goals as goal

pub judge_add-requires : goal.judge_add-requires
judge_add-requires c =
    let added = c.args.added.now in
    let is = addition c.args.dir.now c.args.token.now added.parent added.class added.name.now added.values.now
    added.sd.now c.requires.sound c.requires.resolved in
    record {
      sound = c.requires.sound;
      parent = is.parent_live;
      class = is.class_within;
      name = is.value;
      attrs = is.within;
    }

pub new_edits-requires : goal.new_edits-requires
new_edits-requires c =
    let added = c.args.added.now in
    let dir = c.args.dir.now in
    let is = addition dir c.args.token.now added.parent added.class added.name.now added.values.now added.sd.now
    c.requires.sound c.requires.resolved in
    let place = new_place dir c.args.token.now added.parent added.class.0 added.name.now added.values.now
    added.sd.now c.in-Ok.object
    (is_some (new_sid dir added.class.0)) c.in-Ok.ensures.1.0 in
    let fit = counters_fit dir c.args.token.now added.parent added.class.0 added.name.now added.values.now
    added.sd.now c.in-Ok.ensures.0 in
    record {
      sound = c.requires.sound;
      parent = subst (λ (p : ℕ). is_live dir.objects p ≡ true) (sym place.0) is.parent_live;
      class = subst (λ (k : ℕ). k < length (classes_of dir.schema)) (sym place.1) is.class_within;
      number = fit.0;
      rid = subst (λ (k : ℕ). is_some (new_sid dir k) ≡ true → dir.meta.next_rid < max_counter) (sym place.1) fit.1;
    }

pub returns-in_ok-edits-in-Ok : goal.returns-in_ok-edits-in-Ok
returns-in_ok-edits-in-Ok c =
    let added = c.args.added.now in
    let dir = c.args.dir.now in
    let token = c.args.token.now in
    let is = addition dir token added.parent added.class added.name.now added.values.now added.sd.now
    c.requires.sound c.requires.resolved in
    let back = new_place_back dir token added.parent added.class.0 added.name.now added.values.now added.sd.now
    c.in-Ok.object
    (is_some (new_sid dir added.class.0)) c.in-Ok.ensures.1.0 in
    let o = new_object dir token added.parent added.class.0 added.name.now added.values.now added.sd.now in
    addition_is reads_back sids_read dir token added.parent added.class added.name.now added.values.now added.sd.now
    c.in_ok-edits-in-Ok.edits
    c.requires.sound c.domain_is_sid.ensures
    is c.in-Ok.ensures.1.1 c.in-Ok.ensures.0
    (c.in_ok-edits-in-Ok.ensures o back.0 back.1
    (new_own dir token added.parent added.class.0 added.name.now added.values.now added.sd.now)
    c.in-Ok.ensures.1.0.seen)

pub returns-in_ok-code-in-Err : goal.returns-in_ok-code-in-Err
unfolding later_checks
returns-in_ok-code-in-Err c = rw c.in_ok-code-in-Err.ensures at c.in-Err.ensures
