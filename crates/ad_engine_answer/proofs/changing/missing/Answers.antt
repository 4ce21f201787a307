use Rattle.std.proofs.Common.{[], ◌∙◌}
use Rattle.ad_needs_rules.specs.Needs.{need_text}
use Rattle.ad_engine_answer.specs.Messages.{done}
use Rattle.ad_engine_answer.proofs.Decisions.{done_with, replied}
use Rattle.ad_engine_answer.proofs.changing.missing.Goals as goal

pub returns : goal.returns
returns c =
    replied c.args.dir.now c.in_ok-bytes.bytes.items
    (done c.args.id c.args.tag 50 [] (need_text c.args.dir.now c.args.need.now)) c.replying.result
    (c.in_ok-bytes.ensures
    ∙ done_with c.args.id c.args.tag 50 c.new.result.items [] c.in_ok-diagnostic.diagnostic.items
    (need_text c.args.dir.now c.args.need.now) c.new.ensures.items c.in_ok-diagnostic.ensures)
    (c.replying.ensures c.args.dir.now)
