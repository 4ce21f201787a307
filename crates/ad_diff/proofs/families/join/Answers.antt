use Rattle.ad_diff.proofs.Contexts.{families_more}
use Rattle.ad_diff.proofs.families.join.Goals as goal

pub returns-clause-families : goal.returns-clause-families
returns-clause-families c = families_more c.args.before.now c.args.after.now c.args.families.now.firsts.items
    c.family_of.new.firsts.items c.args.families.now.objects.items c.push.new.self.items c.args.o
    c.in_ok-family.family c.in_ok-family.ensures.family c.requires.families c.in_ok-push.ensures.items
