use Rattle.ad_sd.proofs.ExactCodec.{sid_passed, sid_cut}
use Rattle.ad_sd.proofs.exact.after_sid.Goals as goal

pub returns-in-Ok : goal.returns-in-Ok
returns-in-Ok c = sid_passed c.args.bytes.now c.new-input.result c.read.new.input c.rest.result.now c.in-Ok.field-0
    c.new-input.ensures c.in-Ok.ensures.read c.rest.ensures

pub returns-in-Err : goal.returns-in-Err
returns-in-Err c = sid_cut c.args.bytes.now c.new-input.result c.in-Err.field-0 c.new-input.ensures
    c.in-Err.ensures.read
