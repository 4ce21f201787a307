use Rattle.std.proofs.Common.{List, map, ap, ◌∙◌, arith}
use Rattle.std.proofs.lemmas.List.{length-map}
use Rattle.ad_sd.specs.declared.parts.Sd.{Sd}
use Rattle.ad_dir_objects.specs.declared.object.Object.{Object as ObjectIn}
use Rattle.ad_dir_objects.specs.Seen.{meta_seen}
use Rattle.ad_dir_model.specs.Object.{Object}
use Rattle.ad_load.specs.Seen.{entry_seen}
use Rattle.ad_load.specs.Settling.{settled_of, with_sd_at, unsettled_with}
use Rattle.ad_load_objects.proofs.Places.{some_at}
use Rattle.ad_load.proofs.Settled.{half_step}
use Rattle.ad_load.proofs.settle.settle.Goals as goal

pub put_sd-requires : goal.put_sd-requires
put_sd-requires c = omega (arith, c.loop-place-test.true, c.len-place-end.ensures, c.loop-place.invariant.long)

pub loop-place-preserved : goal.loop-place-preserved
loop-place-preserved c =
    let before : List Object = map entry_seen c.args.objects.now.items in
    let dir = unsettled_with c.args.schema.now before (meta_seen c.args.meta.now) in
    let own = some_at before c.loop-place.place
    (omega
    (arith, c.loop-place-test.true, c.len-place-end.ensures, length-map c.args.objects.now.items entry_seen)) in
    record {
      half =
          c.put_sd.ensures.seen
          ∙ ap (with_sd_at c.loop-place.place c.in_ok-sd.sd) c.loop-place.invariant.half
          ∙ half_step dir c.requires.read c.requires.order c.loop-place.place own.0 c.in_ok-sd.sd own.1
          (
          c.in_ok-sd.ensures
          ∙ ap (λ (os : List (ObjectIn × Sd)). settled_of c.args.schema.now (map entry_seen os) c.loop-place.place)
          c.as_slice.ensures.value
          ∙ ap (λ (os : List Object). settled_of c.args.schema.now os c.loop-place.place) c.loop-place.invariant.half
          );
      long = c.put_sd.ensures.len ∙ c.loop-place.invariant.long;
    }
