use Rattle.std.proofs.Common.{◌∙◌}
use Rattle.std.proofs.lemmas.Result.{IfOk-weaker}
use Rattle.ad_ldap.proofs.ReplyWriting.{element_length}
use Rattle.ad_ldap.proofs.reply_writing.element_len.Goals as goal

pub returns : goal.returns
returns c = IfOk-weaker c.plus.result _ _
    (λ n e tag body is. e ∙ element_length tag body c.args.len c.header_len.result is (c.header_len.ensures.len tag))
    c.plus.ensures
