use Rattle.std.proofs.Common.{sym, ◌∙◌}
use Rattle.ad_schema.specs.declared.line.SchemaKind.TheVariants.{Class}
use Rattle.ad_schema.proofs.RecordLemmas.{records_at, records_end}
use Rattle.ad_schema.proofs.FinishLemmas.{unknown_none, unknown_some, unknown_here, unknown_end}
use Rattle.ad_schema.proofs.passes.first_unknown.Goals as goal

pub loop-record-preserved-in_default : goal.loop-record-preserved-in_default
loop-record-preserved-in_default c =
    let step = records_at Class c.args.records.now c.loop-record.record-index c.record-item.result
    c.loop-record-test.true c.record-item.is in
    let none = rw c.in_default.is at c.lines_if.ensures in
    sym (unknown_none c.args.attrs.now c.args.classes.now _ _ _ step (sym none)) ∙ c.loop-record.invariant

pub returns-in-Some-unknown_in : goal.returns-in-Some-unknown_in
returns-in-Some-unknown_in c =
    let step = records_at Class c.args.records.now c.loop-record.record-index c.record-item.result
    c.loop-record-test.true c.record-item.is in
    let some = rw c.in-Some.is at c.lines_if.ensures in
    let found = rw c.in-Some-unknown_in.is at c.unknown_in.ensures in
    sym (unknown_here c.args.attrs.now c.args.classes.now _ _ _ _ _ step (sym some) (sym found))
    ∙ c.loop-record.invariant

pub loop-record-preserved : goal.loop-record-preserved
loop-record-preserved c =
    let step = records_at Class c.args.records.now c.loop-record.record-index c.record-item.result
    c.loop-record-test.true c.record-item.is in
    let some = rw c.in-Some.is at c.lines_if.ensures in
    let none = rw c.in_default-unknown_in.is at c.unknown_in.ensures in
    sym (unknown_some c.args.attrs.now c.args.classes.now _ _ _ _ step (sym some) (sym none)) ∙ c.loop-record.invariant

pub returns : goal.returns
returns c = sym (unknown_end c.args.attrs.now c.args.classes.now _
    (records_end Class c.args.records.now c.loop-record.record-index c.loop-record-test.false))
    ∙ c.loop-record.invariant
