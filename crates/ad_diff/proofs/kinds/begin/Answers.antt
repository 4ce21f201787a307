use Rattle.std.proofs.Common.{◌∙◌, length, ap}
use Rattle.ad_diff.proofs.Contexts.{kind_new}
use Rattle.ad_diff.proofs.kinds.begin.Goals as goal

pub returns : goal.returns
returns c = λ named parties. kind_new named parties c.args.firsts.now.items c.push.new.self.items c.args.place
    c.in_ok-kind.kind c.in_ok-push.ensures.items (c.in_ok-kind.ensures ∙ ap length c.as_slice.ensures.value)
