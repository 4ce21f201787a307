use Rattle.std.proofs.Common.{Ok, Err, refl}
use Rattle.ad_value.specs.declared.fault.ValueFault.TheVariants as fault
use Rattle.ad_protect.proofs.Values.{mark_read}
use Rattle.ad_protect.proofs.mark.one_of.Goals as goal

pub returns-in-Ok : goal.returns-in-Ok
returns-in-Ok c = mark_read c.args.schema.now c.args.attr.0 c.attr_info.result.now (Ok c.in-Ok.value)
    c.attr_info.ensures c.in-Ok.ensures.value

pub returns-in-Err-TooLong : goal.returns-in-Err-TooLong
returns-in-Err-TooLong c =
    let told = rw c.in-Err-TooLong.field-0-is at c.in-Err-TooLong.ensures.value in
    mark_read c.args.schema.now c.args.attr.0 c.attr_info.result.now (Err fault.TooLong) c.attr_info.ensures (told refl)

pub returns-in-Err-Syntax : goal.returns-in-Err-Syntax
returns-in-Err-Syntax c =
    let told = rw c.in-Err-Syntax.field-0-is at c.in-Err-Syntax.ensures.value in
    mark_read c.args.schema.now c.args.attr.0 c.attr_info.result.now (Err fault.Syntax) c.attr_info.ensures (told refl)
