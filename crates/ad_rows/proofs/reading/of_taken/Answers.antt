use Rattle.std.proofs.Common.{◌∙◌, sym, refl}
use Rattle.ad_dir_objects.specs.Seen.{meta_seen, objects_of}
use Rattle.ad_rows_sound.specs.Parts.{dir_of}
use Rattle.ad_rows.specs.Taking.{parts_of}
use Rattle.ad_rows.proofs.Answering.{judged_answer}
use Rattle.ad_rows.proofs.reading.of_taken.Goals as goal

pub returns-in-Some-schema : goal.returns-in-Some-schema
returns-in-Some-schema c =
    let taken = c.args.taken.now in
    let dir = dir_of c.in-Some-schema.schema (objects_of taken.objects.items) c.in-Some.pending.items
    (meta_seen c.in-Some-take.meta) in
    let pending = sym c.take.ensures.value ∙ c.in-Some.is in
    let meta = sym c.take-2.ensures.value ∙ c.in-Some-take.is in
    judged_answer c.args.schema dir (parts_of taken) c.of_parts.result c.in-Some-schema.is
    (record { objects = refl; pending = rw pending refl; meta = rw meta refl }) c.of_parts.ensures.made
    c.of_parts.ensures.sound c.of_parts.ensures.told
