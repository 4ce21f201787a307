use Rattle.std.proofs.Common.{sym}
use Rattle.std.proofs.lemmas.List.{map_push}
use Rattle.ad_schema.specs.declared.line.SchemaKind.TheVariants.{Class}
use Rattle.ad_schema.proofs.RecordLemmas.{records_at, records_end, pushed, passed, ended}
use Rattle.ad_schema.proofs.classes.class_lines.Goals as goal

pub loop-record-preserved-in_default : goal.loop-record-preserved-in_default
loop-record-preserved-in_default c =
    let step = records_at Class c.args.records.now c.loop-record.record-index c.record-item.result
    c.loop-record-test.true c.record-item.is in
    let none = rw c.in_default.is at c.lines_if.ensures in
    passed _ _ _ _ _ c.loop-record.invariant step (sym none)

pub loop-record-preserved : goal.loop-record-preserved
loop-record-preserved c =
    let step = records_at Class c.args.records.now c.loop-record.record-index c.record-item.result
    c.loop-record-test.true c.record-item.is in
    let some = rw c.in-Some.is at c.lines_if.ensures in
    rw (c.in_ok-push.ensures.items, map_push) (pushed _ _ _ _ _ _ c.loop-record.invariant step (sym some))

pub returns : goal.returns
returns c = ended _ _ _ c.loop-record.invariant
    (records_end Class c.args.records.now c.loop-record.record-index c.loop-record-test.false)
