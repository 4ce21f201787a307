use Rattle.std.proofs.Common.{sym, ◌∙◌}
use Rattle.ad_schema.proofs.RecordLemmas.{bad_starts, bad_at, bad_ends}
use Rattle.ad_schema.proofs.record.bad_value.Goals as goal

pub loop-i-init : goal.loop-i-init
loop-i-init c = bad_starts c.args.kind c.args.lines.now

pub returns-in-Some : goal.returns-in-Some
returns-in-Some c =
    let step = bad_at c.args.kind c.args.lines.now c.loop-i.i c.index-lines-i.result c.loop-i-test.true
    c.index-lines-i.is in
    sym (c.loop-i.invariant ∙ rw (sym c.bad_line.ensures ∙ c.in-Some.is) at step)

pub loop-i-preserved : goal.loop-i-preserved
loop-i-preserved c =
    let step = bad_at c.args.kind c.args.lines.now c.loop-i.i c.index-lines-i.result c.loop-i-test.true
    c.index-lines-i.is in
    c.loop-i.invariant ∙ rw (sym c.bad_line.ensures ∙ c.in_default.is) at step

pub returns : goal.returns
returns c = sym (c.loop-i.invariant ∙ bad_ends c.args.kind c.args.lines.now c.loop-i.i c.loop-i-test.false)
