use Rattle.std.proofs.Common.{◌∙◌, arith}
use Rattle.ad_dn.proofs.KeyLaws.{closed_more, closed_done}
use Rattle.ad_dn.proofs.name_key.push_closed.Goals as goal

pub loop-byte-preserved : goal.loop-byte-preserved
loop-byte-preserved c =
    closed_more c.loop-byte.key.items c.push_escaped.new.key.items c.args.value.now _ c.loop-byte.byte-index
    (omega arith) c.in_ok-push_escaped.ensures c.loop-byte.invariant

pub returns : goal.returns
returns c = c.in_ok-push.ensures.items ∙ closed_done c.loop-byte.key.items c.args.value.now _ c.loop-byte.byte-index
    (omega arith) c.loop-byte.invariant
