use Rattle.std.proofs.Common.{Option, ◌∙◌, ap, subst, inr}
use Rattle.std.specs.Option.{option_map, option_and_then}
use Rattle.std.proofs.lemmas.Option.{none-some}
use Rattle.ad_dir_model.specs.Objects.{sd_at}
use Rattle.ad_dir_objects.specs.Seen.{object_seen}
use Rattle.ad_dir_table.specs.Entry.{objects_in}
use Rattle.ad_dir_table.specs.NameKeys.{ChildName, key_name}
use Rattle.ad_dir_table.specs.Exact.{name_of}
use Rattle.ad_dir_table.specs.KeyChanges.{IsChange}
use Rattle.ad_dir_table.proofs.MapLaws.{if_ok}
use Rattle.ad_dir_table.proofs.by_name.name_change.Goals as goal

pub returns-in-Some : goal.returns-in-Some
returns-in-Some c =
    if_ok c.renamed.result
    (λ change all sd. subst (λ (was : Option ChildName). IsChange was (name_of (object_seen c.args.object.now sd))
    (option_map key_name change.to) (option_map key_name change.from))
    (ap (option_and_then name_of) c.in-Some.ensures)
    (all (sd_at (objects_in c.args.objects.now.entries) c.args.object.now.number) sd))
    c.renamed.ensures

pub returns-in_ok-key_of-in-None : goal.returns-in_ok-key_of-in-None
returns-in_ok-key_of-in-None c = λ sd.
    let none = ap (option_and_then name_of) c.in-None.ensures in
    inr (record {
      put = c.in_ok-key_of-in-None.ensures sd;
      taken = none;
      apart = λ v now was.
          none-some v (none ∙ was);
    })
