use Rattle.std.proofs.Common.{◌∙◌, ap}
use Rattle.ad_dir.proofs.NameLaws.{if_ok}
use Rattle.ad_constructed.specs.Listed.{attributes}
use Rattle.ad_constructed_dir.specs.Changing.{rights_at, changing_of}
use Rattle.ad_constructed_dir.proofs.ChangingLaws.{attributes_by}
use Rattle.ad_constructed_dir.proofs.changing.attributes_written.Goals as goal

pub returns : goal.returns
unfolding changing_of
returns c =
    if_ok c.attributes.result
    (λ names so. (rw (c.schema.ensures, c.as_slice.ensures.value) at so)
    ∙ attributes_by c.args.dir.now c.args.token.now c.args.number c.class_of-class.result.0
    c.in_ok-written.written.items c.in_ok-written.ensures
    ∙ ap (λ k. attributes c.args.dir.now.schema k (rights_at c.args.dir.now c.args.token.now c.args.number))
    c.class_of-class.ensures.class)
    c.attributes.ensures
