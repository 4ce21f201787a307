use Rattle.std.proofs.Common.{[], ◌∙◌}
use Rattle.ad_engine_answer.specs.Messages.{done}
use Rattle.ad_engine_answer.proofs.Decisions.{done_with, replied}
use Rattle.ad_engine_answer.proofs.replies.refused.Goals as goal

pub returns : goal.returns
returns c = λ dir.
    replied dir c.in_ok-bytes.bytes.items (done c.args.id c.args.tag c.args.code [] []) c.replying.result
    (c.in_ok-bytes.ensures ∙ done_with c.args.id c.args.tag c.args.code c.new.result.items [] c.new-2.result.items []
    c.new.ensures.items c.new-2.ensures.items)
    (c.replying.ensures dir)
