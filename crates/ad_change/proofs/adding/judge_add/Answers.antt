use Rattle.std.proofs.Common.{List, ℕ, map, refl, sym, subst, ap, ◌∙◌}
use Rattle.std.specs.Prelude.{is_none}
use Rattle.std.proofs.lemmas.Result.{err_from_is_err_and}
use Rattle.ad_dir_objects.specs.Seen.{held_seen}
use Rattle.ad_dir_model.specs.Names.{child_named}
use Rattle.ad_dir_model.specs.Soundness.{AttrsRiseFrom}
use Rattle.ad_change.specs.Adding.{add_later, new_object}
use Rattle.ad_change.specs.Creating.{IsNewObject, sent_checks}
use Rattle.ad_change.proofs.AddLaws.{rise_all}
use Rattle.ad_change.proofs.AddChecks.{add_stops, add_taken, add_full, add_fine, made_is_new}
use Rattle.ad_change_values.proofs.SentLaws.{stops}
use Rattle.ad_change.proofs.adding.judge_add.Goals as goal

pub returns-in_err-held : goal.returns-in_err-held
returns-in_err-held c =
    let added = c.args.added.now in
    let p = err_from_is_err_and c.from_residual.result c.from_residual.ensures.1 in
    rw (p.1, p.2) (stops (sent_checks c.args.dir.now c.args.token.now added.parent added.class.0 added.values.now
    added.sd.now)
    (add_later c.args.dir.now c.args.token.now added.parent added.class.0 added.name.now added.values.now
    added.sd.now) c.in_err-held.field-0.0
    (λ r is. add_stops c.args.dir.now c.args.token.now added.parent added.class.0 added.name.now added.values.now
    added.sd.now r is) c.in_err-held.ensures)

pub returns-then-not-free : goal.returns-then-not-free
returns-then-not-free c =
    let added = c.args.added.now in
    add_taken c.args.dir.now c.args.token.now added.parent added.class.0 added.name.now added.values.now
    added.sd.now c.in_ok-held.ensures.0
    (ap (λ (n : List ℕ). is_none (child_named c.args.dir.now.objects added.parent n)) (sym c.as_slice.ensures)
    ∙ sym c.in_ok-free.ensures ∙ c.if-not-free.true)

pub new_object-requires-clause-rise : goal.new_object-requires-clause-rise
new_object-requires-clause-rise c =
    let added = c.args.added.now in
    subst (AttrsRiseFrom 0) (sym c.in_ok-held.ensures.1.0)
    (rise_all c.args.dir.now added.values.now)

pub returns-then-not-fits_in : goal.returns-then-not-fits_in
returns-then-not-fits_in c =
    let added = c.args.added.now in
    let dir = c.args.dir.now in
    let o = new_object dir c.args.token.now added.parent added.class.0 added.name.now added.values.now
    added.sd.now in
    let new : IsNewObject dir o c.in_ok-object.object c.gets_sid-gets.result =
    made_is_new dir c.args.token.now added.parent added.class.0 added.name.now added.values.now added.sd.now
    c.in_ok-object.object
    (map held_seen c.in_ok-held.held.items) c.gets_sid-gets.result c.in_ok-held.ensures.1.0 c.in_ok-object.ensures
    c.gets_sid-gets.ensures in
    add_full dir c.args.token.now added.parent added.class.0 added.name.now added.values.now added.sd.now
    c.in_ok-held.ensures.0
    (ap (λ (n : List ℕ). is_none (child_named dir.objects added.parent n)) (sym c.as_slice.ensures)
    ∙ sym c.in_ok-free.ensures ∙ c.if-not-free.false)
    (sym (c.fits_in.ensures o new) ∙ c.if-not-fits_in.true)

pub returns : goal.returns
returns c =
    let added = c.args.added.now in
    let dir = c.args.dir.now in
    let o = new_object dir c.args.token.now added.parent added.class.0 added.name.now added.values.now
    added.sd.now in
    let new : IsNewObject dir o c.in_ok-object.object c.gets_sid-gets.result =
    made_is_new dir c.args.token.now added.parent added.class.0 added.name.now added.values.now added.sd.now
    c.in_ok-object.object
    (map held_seen c.in_ok-held.held.items) c.gets_sid-gets.result c.in_ok-held.ensures.1.0 c.in_ok-object.ensures
    c.gets_sid-gets.ensures in (
      add_fine dir c.args.token.now added.parent added.class.0 added.name.now added.values.now added.sd.now
          c.in_ok-held.ensures.0
          (ap (λ (n : List ℕ). is_none (child_named dir.objects added.parent n)) (sym c.as_slice.ensures)
          ∙ sym c.in_ok-free.ensures ∙ c.if-not-free.false)
          (sym (c.fits_in.ensures o new) ∙ c.if-not-fits_in.false),
      (
        made_is_new dir c.args.token.now added.parent added.class.0 added.name.now added.values.now added.sd.now
            c.in_ok-object.object
            (map held_seen c.in_ok-held.held.items) _ c.in_ok-held.ensures.1.0 c.in_ok-object.ensures refl,
        c.in_ok-held.ensures.1.1,
      ),
    )
