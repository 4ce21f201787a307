use Rattle.std.proofs.Common.{◌∙◌, reverse, ap}
use Rattle.ad_dir.proofs.ShownLaws.{classes_shown}
use Rattle.ad_dir.proofs.shown.class_values.Goals as goal

pub returns : goal.returns
returns c = c.reverse.ensures.items ∙ ap reverse c.in_ok-values.ensures ∙ classes_shown c.args.schema.now
    c.args.syntax c.args.class.0
