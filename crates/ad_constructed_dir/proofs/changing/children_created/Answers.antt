use Rattle.std.proofs.Common.{◌∙◌, [], ap}
use Rattle.ad_dir.proofs.NameLaws.{if_ok}
use Rattle.ad_constructed.specs.Listed.{children}
use Rattle.ad_constructed_dir.specs.Changing.{rights_at, changing_of}
use Rattle.ad_constructed_dir.proofs.ChangingLaws.{children_by}
use Rattle.ad_constructed_dir.proofs.changing.children_created.Goals as goal

pub returns : goal.returns
unfolding changing_of
returns c =
    if_ok c.children.result
    (λ names so. (rw c.schema.ensures at so)
    ∙ children_by c.args.dir.now c.args.token.now c.args.number c.requires c.class_of.result.0 []
    ∙ ap (λ k. children c.args.dir.now.schema k (rights_at c.args.dir.now c.args.token.now c.args.number))
    c.class_of.ensures.class)
    c.children.ensures
