use Rattle.std.proofs.Common.{◌∙◌, ap}
use Rattle.std.specs.Prelude.{find, nat_lt}
use Rattle.ad_dir_model.specs.Directory.{Directory}
use Rattle.ad_dir_model.specs.Objects.{next_child}
use Rattle.ad_dir_table.specs.Entry.{objects_in}
use Rattle.ad_dir_table.proofs.ChildLaws.{lists_rise, next_is}
use Rattle.ad_dir.proofs.dir.Dir.next_child.Goals as goal

pub next_child-requires : goal.next_child-requires
next_child-requires c = lists_rise (objects_in c.self.inside.objects.entries) c.self.inside.index.children.entries
    c.self.invariant.standing.rise c.self.invariant.indexed.children

pub returns : goal.returns
returns c =
    c.next_child.ensures ∙ ap (find (nat_lt c.args.above)) (c.self.invariant.indexed.children c.args.parent)
    ∙ next_is (objects_in c.self.inside.objects.entries) c.args.parent c.args.above
    ∙ ap (λ (dir : Directory). next_child dir.objects c.args.parent c.args.above) c.self.view_is
