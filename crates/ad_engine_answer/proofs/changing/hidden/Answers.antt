use Rattle.std.proofs.Common.{[], ◌∙◌}
use Rattle.ad_dn.specs.Text.{dn_text}
use Rattle.ad_engine_answer.specs.Messages.{done}
use Rattle.ad_engine_answer.proofs.Decisions.{done_with, replied}
use Rattle.ad_engine_answer.proofs.changing.hidden.Goals as goal

pub returns : goal.returns
returns c = λ dir.
    replied dir c.in_ok-bytes.bytes.items (done c.args.id c.args.tag 32 (dn_text c.args.dn.now) []) c.replying.result
    (c.in_ok-bytes.ensures ∙ done_with c.args.id c.args.tag 32 c.in_ok-name.name.items (dn_text c.args.dn.now)
    c.new.result.items [] c.in_ok-name.ensures.written c.new.ensures.items)
    (c.replying.ensures dir)
