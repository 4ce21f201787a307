use Rattle.std.proofs.Common.{sym, ◌∙◌}
use Rattle.ad_schema.specs.declared.field.Field.TheVariants.{AppliesTo}
use Rattle.ad_ids.specs.GuidText.{guid_of_text}
use Rattle.ad_schema.proofs.RecordLemmas.{values_at, values_end, pushed, passed, ended}
use Rattle.ad_schema.proofs.reading.applies_to.Goals as goal

pub loop-line-preserved-in_default : goal.loop-line-preserved-in_default
loop-line-preserved-in_default c =
    let step = values_at guid_of_text AppliesTo AppliesTo c.args.lines.now c.loop-line.line-index c.line-item.result
    c.loop-line-test.true c.line-item.is in
    passed _ _ _ _ _ c.loop-line.invariant step (sym c.applied.ensures ∙ c.in_default.is)

pub loop-line-preserved : goal.loop-line-preserved
loop-line-preserved c =
    let step = values_at guid_of_text AppliesTo AppliesTo c.args.lines.now c.loop-line.line-index c.line-item.result
    c.loop-line-test.true c.line-item.is in
    rw c.in_ok-push.ensures.ok (pushed _ _ _ _ _ _ c.loop-line.invariant step (sym c.applied.ensures ∙ c.in-Some.is))

pub returns : goal.returns
returns c = ended _ _ _ c.loop-line.invariant
    (values_end guid_of_text AppliesTo AppliesTo c.args.lines.now c.loop-line.line-index c.loop-line-test.false)
