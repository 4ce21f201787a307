use Rattle.std.proofs.lemmas.List.{nil_from_length}
use Rattle.ad_diff.proofs.Putting.{none_other}
use Rattle.ad_diff.proofs.columns.is_plain.Goals as goal

pub returns : goal.returns
returns c = λ is frame place. none_other frame c.args.column.now
    (nil_from_length c.args.column.now.others.entries (c.is_empty.ensures.0 is)) place
