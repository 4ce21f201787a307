use Rattle.std.proofs.Common.{Some, sym, ap, ◌∙◌}
use Rattle.std.specs.Option.{option_map}
use Rattle.ad_schema.specs.declared.line.SchemaKind.TheVariants.{Right}
use Rattle.ad_schema.specs.Attributes.{right_info, rights_of}
use Rattle.ad_schema.proofs.RecordLemmas.{lines_at, lines_end, pushed, passed, ended}
use Rattle.ad_schema.proofs.passes.all_rights.Goals as goal

pub loop-record-preserved-in_default : goal.loop-record-preserved-in_default
loop-record-preserved-in_default c =
    let step = lines_at right_info Right c.args.records.now c.loop-record.record-index c.record-item.result
    c.loop-record-test.true c.record-item.is in
    let none = rw c.in_default.is at c.lines_if.ensures in
    passed _ _ _ _ _ c.loop-record.invariant step (ap (option_map right_info) (sym none))

pub loop-record-preserved : goal.loop-record-preserved
loop-record-preserved c =
    let step = lines_at right_info Right c.args.records.now c.loop-record.record-index c.record-item.result
    c.loop-record-test.true c.record-item.is in
    let some = rw c.in-Some.is at c.lines_if.ensures in
    rw c.in_ok-push.ensures.items (pushed _ _ _ _ _ _ c.loop-record.invariant step
    (ap (option_map right_info) (sym some) ∙ ap Some (sym c.in_ok-info.ensures)))

pub returns : goal.returns
unfolding rights_of
returns c = ended _ _ _ c.loop-record.invariant
    (lines_end right_info Right c.args.records.now c.loop-record.record-index c.loop-record-test.false)
