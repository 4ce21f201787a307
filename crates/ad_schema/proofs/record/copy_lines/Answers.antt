use Rattle.std.proofs.Common.{ap, sym, ◌∙◌, Some}
use Rattle.std.proofs.lemmas.List.{at_drop_all}
use Rattle.ad_schema.proofs.RecordLemmas.{items_at, pushed, ended}
use Rattle.ad_schema.proofs.record.copy_lines.Goals as goal

pub loop-line-preserved : goal.loop-line-preserved
loop-line-preserved c =
    let step = items_at c.args.lines.now c.loop-line.line-index c.line-item.result c.loop-line-test.true
    c.line-item.is in
    rw c.in_ok-push.ensures.items (pushed _ _ _ _ _ _ c.loop-line.invariant step (ap Some (sym c.in_ok-copy.ensures)))

pub returns : goal.returns
returns c = c.from_vec.ensures ∙ ended _ _ _ c.loop-line.invariant
    (at_drop_all (λ ls. ls) c.args.lines.now c.loop-line.line-index c.loop-line-test.false)
