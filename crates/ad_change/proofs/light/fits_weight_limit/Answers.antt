use Rattle.std.proofs.Common.{List, sym, ap, ◌∙◌}
use Rattle.ad_schema.specs.declared.line.SchemaRecord.{SchemaRecord}
use Rattle.ad_dir_objects.specs.Seen.{object_seen}
use Rattle.ad_dir_model.specs.Weight.{object_weight}
use Rattle.ad_dir_objects.specs.Left.{left_of}
use Rattle.ad_change.proofs.OtherLaws.{light_by, heavy_by}
use Rattle.ad_change.proofs.light.fits_weight_limit.Goals as goal

pub returns-in-Some : goal.returns-in-Some
returns-in-Some c = λ sd.
    c.is_enough.ensures
    ∙ light_by c.args.dir.now (object_seen c.args.object.now sd) c.in-Some.left c.requires
    (ap (λ (s : List SchemaRecord). left_of 268435456 (object_weight s (object_seen c.args.object.now sd)))
    (sym c.schema.ensures) ∙ sym (c.in-Some.ensures sd))

pub returns-in-None : goal.returns-in-None
returns-in-None c = λ sd.
    heavy_by c.args.dir.now (object_seen c.args.object.now sd) c.requires
    (ap (λ (s : List SchemaRecord). left_of 268435456 (object_weight s (object_seen c.args.object.now sd)))
    (sym c.schema.ensures) ∙ sym (c.in-None.ensures sd))
