use Rattle.std.proofs.Common.{◌≡◌, ◌<◌, length, map, sym, subst, ap, ◌∙◌}
use Rattle.std.proofs.lemmas.Result.{err_from_is_err_and}
use Rattle.ad_schema.specs.Classes.{classes_of}
use Rattle.ad_dir_objects.specs.declared.object.Object.{Object as ObjectIn}
use Rattle.ad_dir_objects.specs.Seen.{held_seen, object_seen}
use Rattle.ad_dir_model.specs.Object.{Object}
use Rattle.ad_dir_model.specs.Objects.{object_at, sd_at}
use Rattle.ad_dir_model.specs.Soundness.{AttrsRiseFrom, IsSoundObject}
use Rattle.ad_dir_model.proofs.ScratchLaws.{sound_at}
use Rattle.ad_needs_rules.specs.Checks.{first_failing}
use Rattle.ad_change.specs.Tree.{fits_weight_limit}
use Rattle.ad_change_values.specs.Items.{after_items}
use Rattle.ad_change.specs.Modifying.{modify_later, modified_object}
use Rattle.ad_change_values.specs.Judging.{value_checks}
use Rattle.ad_change_values.proofs.SentLaws.{stops}
use Rattle.ad_change.proofs.ModifyChecks.{owner_stops, values_stop, weight_stops, all_hold}
use Rattle.ad_change.proofs.modifying.judge_modify.Goals as goal

pub returns-then-not-is_owner_allowed : goal.returns-then-not-is_owner_allowed
returns-then-not-is_owner_allowed c =
    owner_stops c.args.dir.now c.args.token.now c.args.target c.args.items.now c.args.sd.now
    (sym c.is_owner_allowed.ensures ∙ c.if-not-is_owner_allowed.true)

pub judge_values-requires : goal.judge_values-requires
judge_values-requires c =
    let dir = c.args.dir.now in
    let own = sd_at dir.objects c.args.target in
    let seen : object_seen c.in_ok-before.before own ≡ object_at dir.objects c.args.target =
    ap (λ (o : ObjectIn). object_seen o own) c.in_ok-before.ensures ∙ c.live_object.ensures in
    let is : IsSoundObject dir (object_at dir.objects c.args.target) = sound_at dir c.requires.sound.each
    c.args.target c.requires.live in
    record {
      class = subst (λ (x : Object). x.class < length (classes_of dir.schema)) (sym seen) is.content.class_of_schema;
      attrs = c.requires.attrs;
      rise = subst (λ (x : Object). AttrsRiseFrom 0 x.values) (sym seen) is.content.attrs_rise;
    }

pub returns-in_err-after : goal.returns-in_err-after
returns-in_err-after c =
    let p = err_from_is_err_and c.from_residual-in_err-after.result c.from_residual-in_err-after.ensures.1 in
    let dir = c.args.dir.now in
    let own = sd_at dir.objects c.args.target in
    let before = c.in_ok-before.before in
    let seen : object_seen before own ≡ object_at dir.objects c.args.target =
    ap (λ (o : ObjectIn). object_seen o own) c.in_ok-before.ensures ∙ c.live_object.ensures in
    rw (p.1, p.2) (stops (value_checks dir before.class.0 (map held_seen before.values) c.args.items.now)
    (modify_later dir c.args.token.now c.args.target c.args.items.now c.args.sd.now) c.in_err-after.field-0.0
    (λ r is. values_stop dir c.args.token.now c.args.target c.args.items.now c.args.sd.now r
    (sym c.is_owner_allowed.ensures ∙ c.if-not-is_owner_allowed.false)
    (ap (λ (x : Object). first_failing (value_checks dir x.class x.values c.args.items.now)) (sym seen) ∙ is))
    c.in_err-after.ensures)

pub returns-then-not-fits_weight_limit : goal.returns-then-not-fits_weight_limit
returns-then-not-fits_weight_limit c =
    let dir = c.args.dir.now in
    let own = sd_at dir.objects c.args.target in
    let before = c.in_ok-before.before in
    let seen : object_seen before own ≡ object_at dir.objects c.args.target =
    ap (λ (o : ObjectIn). object_seen o own) c.in_ok-before.ensures ∙ c.live_object.ensures in
    let made : object_seen c.in_ok-after.after own ≡ modified_object dir c.args.target c.args.items.now =
    c.in_ok-after.ensures.1.0 own ∙ ap (λ (x : Object). record x { values = after_items dir x.values c.args.items.now })
    seen in
    weight_stops dir c.args.token.now c.args.target c.args.items.now c.args.sd.now
    (sym c.is_owner_allowed.ensures ∙ c.if-not-is_owner_allowed.false)
    (ap (λ (x : Object). first_failing (value_checks dir x.class x.values c.args.items.now)) (sym seen)
    ∙ c.in_ok-after.ensures.0)
    (sym (ap (fits_weight_limit dir) made) ∙ sym (c.fits_weight_limit.ensures own) ∙ c.if-not-fits_weight_limit.true)

pub returns : goal.returns
returns c =
    let dir = c.args.dir.now in
    let own = sd_at dir.objects c.args.target in
    let before = c.in_ok-before.before in
    let seen : object_seen before own ≡ object_at dir.objects c.args.target =
    ap (λ (o : ObjectIn). object_seen o own) c.in_ok-before.ensures ∙ c.live_object.ensures in
    let made : object_seen c.in_ok-after.after own ≡ modified_object dir c.args.target c.args.items.now =
    c.in_ok-after.ensures.1.0 own ∙ ap (λ (x : Object). record x { values = after_items dir x.values c.args.items.now })
    seen in (
      all_hold dir c.args.token.now c.args.target c.args.items.now c.args.sd.now
          (sym c.is_owner_allowed.ensures ∙ c.if-not-is_owner_allowed.false)
          (ap (λ (x : Object). first_failing (value_checks dir x.class x.values c.args.items.now)) (sym seen)
          ∙ c.in_ok-after.ensures.0)
          (sym (ap (fits_weight_limit dir) made) ∙ sym (c.fits_weight_limit.ensures own)
          ∙ c.if-not-fits_weight_limit.false),
      (made, c.in_ok-after.ensures.1.1),
    )
