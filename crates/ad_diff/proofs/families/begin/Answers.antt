use Rattle.std.proofs.Common.{◌∙◌, length, ap}
use Rattle.ad_diff.proofs.Contexts.{family_new}
use Rattle.ad_diff.proofs.families.begin.Goals as goal

pub returns-clause-family : goal.returns-clause-family
returns-clause-family c = λ before after. family_new before after c.args.firsts.now.items c.push.new.self.items
    c.in_ok-family.family c.args.o c.in_ok-push.ensures.items
    (c.in_ok-family.ensures ∙ ap length c.as_slice.ensures.value)
