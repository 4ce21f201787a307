use Rattle.std.proofs.Common.{List, sym, subst}
use Rattle.ad_sd.specs.declared.parts.Sd.{Sd}
use Rattle.ad_dir_objects.specs.declared.object.Object.{Object}
use Rattle.ad_dir_objects.specs.Seen.{meta_seen, objects_of}
use Rattle.ad_dir_model.specs.Soundness.{IsContent}
use Rattle.ad_rows_sound.specs.Least.{IsLeastObject}
use Rattle.ad_rows_sound.specs.Objects.{AreObjects}
use Rattle.ad_rows_sound.specs.Parts.{dir_of}
use Rattle.ad_rows_sound.specs.Told.{IsToldBy}
use Rattle.ad_rows.specs.Reading.{IsFaultOf}
use Rattle.ad_rows.proofs.Answering.{fault_of}
use Rattle.ad_rows.proofs.Growing.{are_objects, bad_is_least}
use Rattle.ad_rows.proofs.reading.check_parts.Goals as goal

pub judge-requires : goal.judge-requires
judge-requires c =
    let taken = c.args.taken.now in
    subst (λ (l : List (Object × Sd)). AreObjects c.args.schema.now taken.bad (objects_of l))
    (sym c.as_slice.ensures.value)
    (are_objects c.args.schema.now taken.bad taken.last (objects_of taken.objects.items) c.requires)

pub returns-in-Err-clause-told : goal.returns-in-Err-clause-told
returns-in-Err-clause-told c =
    let schema = c.args.schema.now in
    let taken = c.args.taken.now in
    let pending = c.args.pending.now in
    let meta = meta_seen c.args.meta.now in
    let bad = subst (λ (l : List (Object × Sd)). IsLeastObject (IsContent schema) (objects_of l) taken.bad)
    (sym c.as_slice.ensures.value) (bad_is_least schema taken.bad taken.last (objects_of taken.objects.items)
    c.requires) in
    let told = subst (λ (l : List (Object × Sd)). IsToldBy (dir_of schema (objects_of l) pending meta) c.in-Err.fault)
    c.as_slice.ensures.value (c.in-Err.ensures.told bad) in
    let dir = dir_of schema (objects_of taken.objects.items) pending meta in
    subst (IsFaultOf dir) (sym c.of_soundness.ensures) (fault_of dir c.in-Err.fault told)
