use Rattle.std.proofs.Common.{sym}
use Rattle.ad_needs.proofs.SentLaws.{own_kept, own_other, own_good}
use Rattle.ad_needs.proofs.sent.unless_own.Goals as goal

pub returns-then-is_kept_back : goal.returns-then-is_kept_back
returns-then-is_kept_back c = own_kept c.args.schema.now c.args.class.0 c.args.value.now
    (c.args.attr.0, c.args.values.now) (sym c.if-is_kept_back.ensures)

pub returns-then-not-are_own : goal.returns-then-not-are_own
returns-then-not-are_own c = own_other c.args.schema.now c.args.class.0 c.args.value.now
    (c.args.attr.0, c.args.values.now) (sym c.if-is_kept_back.ensures) (sym c.if-not-are_own.ensures)

pub returns : goal.returns
returns c = own_good c.args.schema.now c.args.class.0 c.args.value.now (c.args.attr.0, c.args.values.now)
    (sym c.if-is_kept_back.ensures) (sym c.if-not-are_own.ensures)
