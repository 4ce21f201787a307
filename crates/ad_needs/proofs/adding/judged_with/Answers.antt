use Rattle.std.proofs.Common.{◌∙◌}
use Rattle.ad_needs.proofs.AddLaws.{act_at, adds_not, adds}
use Rattle.ad_needs.proofs.adding.judged_with.Goals as goal

pub returns-in-Some : goal.returns-in-Some
returns-in-Some c =
    let added = c.args.added.now in
    adds_not c.args.dir.now c.args.token.now added.parent c.args.rdn added.class.0 added.add.now added.flags
    c.args.sd c.asked_of-sd.result c.in-Some.refusal
    c.requires.other c.requires.typed c.requires.sent c.asked_of-sd.ensures (rw c.in-Some.is at c.in_ok-refusal.ensures)

pub returns-in_ok-values-in-None : goal.returns-in_ok-values-in-None
returns-in_ok-values-in-None c =
    let added = c.args.added.now in
    act_at c.args.dir.now added.parent c.args.rdn added.class added.add.now added.flags c.schema.result.now
    c.in_ok-values-in-None.values c.args.sd c.asked_of-sd.result c.schema.ensures
    c.in_ok-values-in-None.ensures c.requires.sent c.asked_of-sd.ensures
    ∙ adds c.args.dir.now c.args.token.now added.parent c.args.rdn added.class.0 added.add.now added.flags
    c.args.sd c.asked_of-sd.result
    c.requires.other c.requires.typed c.requires.sent c.asked_of-sd.ensures (rw c.in-None.is at c.in_ok-refusal.ensures)
