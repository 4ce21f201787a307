use Rattle.std.proofs.Common.{◌∙◌, ap}
use Rattle.std.specs.Option.{option_map}
use Rattle.ad_dir_model.specs.Directory.{Directory}
use Rattle.ad_dir_model.specs.Names.{child_named}
use Rattle.ad_dir_table.specs.Entry.{objects_in}
use Rattle.ad_dir_table.proofs.IndexLaws.{name_found}
use Rattle.ad_dir.proofs.dir.Dir.child_named.Goals as goal

pub returns : goal.returns
returns c =
    c.with_name.ensures
    ∙ name_found c.self.inside.index.names.entries (objects_in c.self.inside.objects.entries) c.args.parent
    c.args.name.now c.self.invariant.standing.rise c.self.invariant.indexed.names
    ∙ ap (λ (dir : Directory). option_map (λ object. object.number)
    (child_named dir.objects c.args.parent c.args.name.now)) c.self.view_is
