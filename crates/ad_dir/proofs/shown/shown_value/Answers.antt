use Rattle.std.proofs.Common.{◌∙◌, sym, ap}
use Rattle.ad_dir_model.specs.Shown.{computed, shown_value}
use Rattle.ad_dir_objects.specs.declared.object.Stored.{Stored}
use Rattle.ad_dir_objects.specs.Seen.{stored_seen}
use Rattle.ad_dir.proofs.NameLaws.{if_ok, name_is}
use Rattle.ad_dir.proofs.shown.shown_value.Goals as goal

pub returns-in_ok-text-in-Link : goal.returns-in_ok-text-in-Link
returns-in_ok-text-in-Link c =
    if_ok c.computed.result
    (λ value is. is ∙ ap (computed c.args.syntax) (c.as_slice.ensures.value ∙ c.in_ok-text-in-Link.ensures.written
    ∙ name_is c.args.dir.now c.in-Link.number c.in_ok-dn_of-in-Link.field-0.rdns c.in_ok-dn_of-in-Link.ensures)
    ∙ ap (λ (s : Stored). shown_value c.args.dir.now c.args.syntax (stored_seen s)) (sym c.in-Link.is))
    c.computed.ensures
