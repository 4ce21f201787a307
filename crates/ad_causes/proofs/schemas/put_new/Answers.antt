use Rattle.std.proofs.Common.{◌∙◌, ◌++◌, ℕ, List, ap}
use Rattle.ad_causes.specs.Extra.{texts}
use Rattle.ad_causes.specs.Steps.{record_line, new_line}
use Rattle.ad_causes.proofs.TextLemmas.{lines_more}
use Rattle.ad_causes.proofs.schemas.put_new.Goals as goal

pub loop-record-preserved : goal.loop-record-preserved
loop-record-preserved c =
    let all = texts c.args.all.now in
    lines_more (new_line all) c.args.into.now.items c.loop-record.into.items c.put_record.new.into.items
    c.args.records.now c.loop-record.record-index c.record-item.result c.loop-record-test.true c.record-item.is
    c.loop-record.invariant
    (c.in_ok-put_record.ensures
    ∙ ap (λ (t : List ℕ). c.loop-record.into.items ++ record_line all t c.record-item.result)
    (c.as_slice.ensures.value ∙ c.in_ok-text.ensures))
