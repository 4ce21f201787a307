use Rattle.std.proofs.Common.{sym, ◌∙◌, arith}
use Rattle.ad_load_records.proofs.Reading.{kind_found, kind_passed, kind_none}
use Rattle.ad_load_records.proofs.records.kind_of.Goals as goal

pub returns-in-Some : goal.returns-in-Some
returns-in-Some c =
    sym (kind_found c.args.lines.now c.loop-line.line-index c.line-item.result c.kind_in.result c.in-Some.kind
    (omega arith) (sym c.line-item.is) c.kind_in.ensures c.in-Some.is) ∙ c.loop-line.invariant

pub loop-line-preserved : goal.loop-line-preserved
loop-line-preserved c =
    sym (kind_passed c.args.lines.now c.loop-line.line-index c.line-item.result c.kind_in.result (omega arith)
    (sym c.line-item.is) c.kind_in.ensures c.in_default.is) ∙ c.loop-line.invariant

pub returns : goal.returns
returns c = sym (kind_none c.args.lines.now c.loop-line.line-index (omega arith)) ∙ c.loop-line.invariant
