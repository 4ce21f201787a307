use Rattle.std.proofs.Common.{Some, sym, ap, ◌∙◌}
use Rattle.std.specs.Option.{option_map}
use Rattle.ad_schema.specs.declared.line.SchemaKind.TheVariants.{Attribute}
use Rattle.ad_schema.specs.Attributes.{attr_info, attrs_of}
use Rattle.ad_schema.proofs.RecordLemmas.{lines_at, lines_end, pushed, passed, ended}
use Rattle.ad_schema.proofs.passes.all_attrs.Goals as goal

pub loop-record-preserved-in_default : goal.loop-record-preserved-in_default
loop-record-preserved-in_default c =
    let step = lines_at attr_info Attribute c.args.records.now c.loop-record.record-index c.record-item.result
    c.loop-record-test.true c.record-item.is in
    let none = rw c.in_default.is at c.lines_if.ensures in
    passed _ _ _ _ _ c.loop-record.invariant step (ap (option_map attr_info) (sym none))

pub loop-record-preserved : goal.loop-record-preserved
loop-record-preserved c =
    let step = lines_at attr_info Attribute c.args.records.now c.loop-record.record-index c.record-item.result
    c.loop-record-test.true c.record-item.is in
    let some = rw c.in-Some.is at c.lines_if.ensures in
    rw c.in_ok-push.ensures.items (pushed _ _ _ _ _ _ c.loop-record.invariant step
    (ap (option_map attr_info) (sym some) ∙ ap Some (sym c.in_ok-info.ensures)))

pub returns : goal.returns
unfolding attrs_of
returns c = ended _ _ _ c.loop-record.invariant
    (lines_end attr_info Attribute c.args.records.now c.loop-record.record-index c.loop-record-test.false)
