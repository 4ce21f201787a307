use Rattle.std.proofs.Common.{◌∙◌, Bool, List, ap}
use Rattle.ad_sets.specs.Rows.{put_all}
use Rattle.ad_sets.proofs.Changing.{whole_is}
use Rattle.ad_sets.proofs.row.whole_of.Goals as goal

pub returns : goal.returns
returns c = λ wanted is.
    c.put_all.ensures
    ∙ ap (λ (l : List Bool). put_all l c.args.changes.now) c.in_ok-whole.ensures
    ∙ whole_is c.args.base.now c.args.changes.now wanted is
