use Rattle.std.proofs.Common.{◌∙◌, ap}
use Rattle.std.specs.Prelude.{find, nat_lt, slice_get}
use Rattle.ad_dir_table.proofs.NumberLaws.{first_above}
use Rattle.ad_dir_table.proofs.by_parent.next_child.Goals as goal

pub returns : goal.returns
returns c =
    c.number_at.ensures ∙ ap (slice_get c.children_of-numbers.result.now) c.up_to.ensures.place
    ∙ first_above c.args.above c.children_of-numbers.result.now ∙ ap (find (nat_lt c.args.above))
    c.children_of-numbers.ensures
