use Rattle.std.proofs.Common.{◌∙◌, ap}
use Rattle.std.specs.Prelude.{option_map}
use Rattle.ad_dir_table.specs.declared.stored_object.StoredObject.{StoredObject}
use Rattle.ad_dir_table.specs.Entry.{HasItsSid}
use Rattle.ad_dir_table.specs.Fields.{HasNormal, entry_kept, object_kept}
use Rattle.ad_dir_table.proofs.Entries.{through, found, found_if}
use Rattle.ad_dir_table.proofs.stored_object.kept_of.Goals as goal

pub returns-clause-found : goal.returns-clause-found
returns-clause-found c = λ live. through live c.kept_in.result ∙ ap (option_map (object_kept live))
    (c.kept_in.ensures ∙ c.get.ensures.value) ∙ found live c.args.objects.now.entries c.args.number c.requires

pub returns-clause-normal : goal.returns-clause-normal
returns-clause-normal c = λ live all. found_if (HasNormal live) c.args.objects.now.entries c.args.number
    c.kept_in.result all (c.kept_in.ensures ∙ c.get.ensures.value)

pub returns-clause-sid : goal.returns-clause-sid
returns-clause-sid c = λ schema live all. found_if (λ (kept : StoredObject). HasItsSid schema (entry_kept live kept))
    c.args.objects.now.entries c.args.number c.kept_in.result all (c.kept_in.ensures ∙ c.get.ensures.value)
