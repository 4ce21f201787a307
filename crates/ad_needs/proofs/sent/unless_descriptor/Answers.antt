use Rattle.std.proofs.Common.{sym}
use Rattle.ad_needs.proofs.SentLaws.{unplaced_unknown, unplaced_twice, unplaced_good}
use Rattle.ad_needs.proofs.sent.unless_descriptor.Goals as goal

pub returns-then-not-is_descriptor : goal.returns-then-not-is_descriptor
returns-then-not-is_descriptor c = unplaced_unknown c.args.earlier.now c.args.name.now
    (sym c.if-not-is_descriptor.ensures)

pub returns-then-is_among : goal.returns-then-is_among
returns-then-is_among c = unplaced_twice c.args.earlier.now c.args.name.now (sym c.if-not-is_descriptor.ensures)
    (sym c.if-is_among.ensures)

pub returns : goal.returns
returns c = unplaced_good c.args.earlier.now c.args.name.now (sym c.if-not-is_descriptor.ensures)
    (sym c.if-is_among.ensures)
