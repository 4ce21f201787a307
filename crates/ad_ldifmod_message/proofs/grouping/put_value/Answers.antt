use Rattle.std.proofs.lemmas.Result.{on_ok_weaker}
use Rattle.ad_ldifmod_message.proofs.Grouped.{value_put}
use Rattle.ad_ldifmod_message.proofs.grouping.put_value.Goals as goal

pub returns : goal.returns
returns c = on_ok_weaker c.push.result (λ e. value_put c.args.attrs.now.items c.args.place c.args.value
    c.index_mut.result.now c.push.new.self c.requires c.index_mut.ensures.value e) c.push.ensures.ok
