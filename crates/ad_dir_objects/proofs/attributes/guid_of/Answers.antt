use Rattle.std.proofs.Common.{◌∙◌, List, Option, sym, ap}
use Rattle.std.specs.Prelude.{slice_get, option_map, unwrap_or}
use Rattle.std.specs.Option.{option_copied}
use Rattle.ad_schema.specs.declared.info.ClassInfo.{ClassInfo}
use Rattle.ad_schema.specs.Attributes.{no_guid}
use Rattle.ad_dir_objects.proofs.ClassGuids.{guid_is}
use Rattle.ad_dir_objects.proofs.attributes.guid_of.Goals as goal

pub returns-in-Some : goal.returns-in-Some
returns-in-Some c =
    sym (guid_is c.args.schema.now c.args.class.0
    ∙ ap (λ (found : Option ClassInfo). unwrap_or (option_map (λ (info : ClassInfo). info.guid) found) no_guid)
    (ap (λ (l : List ClassInfo). slice_get l c.args.class.0) (sym c.classes.ensures) ∙ sym c.class_at.ensures
    ∙ ap option_copied c.in-Some.is))

pub returns-in-None : goal.returns-in-None
returns-in-None c =
    sym (guid_is c.args.schema.now c.args.class.0
    ∙ ap (λ (found : Option ClassInfo). unwrap_or (option_map (λ (info : ClassInfo). info.guid) found) no_guid)
    (ap (λ (l : List ClassInfo). slice_get l c.args.class.0) (sym c.classes.ensures) ∙ sym c.class_at.ensures
    ∙ ap option_copied c.in-None.is))
