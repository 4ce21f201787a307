use Rattle.std.proofs.Common.{refl, arith}
use Rattle.ad_change_values.proofs.SentLaws.{one_read, one_long, one_unread}
use Rattle.ad_change_values.proofs.values.read_more.Goals as goal

pub returns-in_ok-push-in-Ok : goal.returns-in_ok-push-in-Ok
returns-in_ok-push-in-Ok c =
    one_read c.args.schema.now c.args.attr.0 c.args.bytes.now c.in-Ok.value c.args.read.now c.push.new.self
    c.in-Ok.ensures c.in_ok-push-in-Ok.ensures.ok (λ i. omega (arith, c.type_inv.bytes i))

pub returns-in-Err-TooLong : goal.returns-in-Err-TooLong
returns-in-Err-TooLong c =
    let h = rw c.in-Err-TooLong.field-0-is at c.in-Err-TooLong.ensures in
    one_long c.args.schema.now c.args.attr.0 c.args.bytes.now c.args.read.now (h refl)
    (λ i. omega (arith, c.type_inv.bytes i))

pub returns-in-Err-Syntax : goal.returns-in-Err-Syntax
returns-in-Err-Syntax c =
    let h = rw c.in-Err-Syntax.field-0-is at c.in-Err-Syntax.ensures in
    one_unread c.args.schema.now c.args.attr.0 c.args.bytes.now (h refl)
