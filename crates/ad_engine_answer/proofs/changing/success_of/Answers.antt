use Rattle.std.proofs.Common.{[], ◌∙◌, refl}
use Rattle.ad_engine_answer.proofs.Decisions.{done_with}
use Rattle.ad_engine_answer.proofs.changing.success_of.Goals as goal

pub returns : goal.returns
returns c = λ dir after are. record {
  reply = c.from_vec.ensures ∙ c.in_ok-bytes.ensures
      ∙ done_with c.args.id c.args.tag 0 c.new.result.items [] c.new-2.result.items [] c.new.ensures.items
      c.new-2.ensures.items;
  edits = are;
  drops = refl;
}
