use Rattle.ad_ldap.specs.declared.reply.Reply.TheVariants.{Notice}
use Rattle.ad_ldap.specs.Reply.{reply_bytes}
use Rattle.ad_engine_answer.proofs.Decisions.{replied}
use Rattle.ad_engine_answer.proofs.replies.notice.Goals as goal

pub returns : goal.returns
returns c = λ dir. replied dir c.in_ok-bytes.bytes.items (reply_bytes Notice) c.replying.result c.in_ok-bytes.ensures
    (c.replying.ensures dir)
