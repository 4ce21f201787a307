use Rattle.ad_sd.proofs.ExactCodec.{list_passed, list_cut}
use Rattle.ad_sd.proofs.exact.after_list.Goals as goal

pub returns-in-Ok : goal.returns-in-Ok
returns-in-Ok c = list_passed c.args.bytes.now c.new-input.result c.be64.new.self c.rest-entries.result.now
    c.in-Ok.count c.after_entries.result c.new-input.ensures c.in-Ok.ensures.read c.rest-entries.ensures
    c.after_entries.ensures

pub returns-in-Err : goal.returns-in-Err
returns-in-Err c = list_cut c.args.bytes.now c.new-input.result c.in-Err.field-0 c.new-input.ensures
    c.in-Err.ensures.read
