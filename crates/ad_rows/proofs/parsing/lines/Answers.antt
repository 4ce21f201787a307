use Rattle.std.proofs.lemmas.Result.{err_from_is_err_and}
use Rattle.ad_bytes.specs.Reading.{many_at}
use Rattle.ad_bytes.proofs.Many.{goes_on, ends, is_done}
use Rattle.ad_rows.specs.Parsing.{line_at}
use Rattle.ad_rows.proofs.parsing.lines.Goals as goal

pub returns-in_err-line : goal.returns-in_err-line
returns-in_err-line c =
    let p = err_from_is_err_and c.from_residual.result c.from_residual.ensures.1 in
    rw (p.1, p.2) (λ not_memory. ends line_at c.in_err-line.field-0.0 c.loop.lines.items c.args.count c.loop.counter
    c.loop.input (many_at line_at c.args.count c.args.input.now) c.loop-test.true
    (c.in_err-line.ensures not_memory) c.loop.invariant)

pub loop-preserved : goal.loop-preserved
loop-preserved c =
    rw c.in_ok-push.ensures.items (goes_on line_at c.loop.lines.items c.args.count c.loop.counter c.loop.input
    c.in_ok-line.line c.line.new.input (many_at line_at c.args.count c.args.input.now) c.loop-test.true
    c.in_ok-line.ensures c.loop.invariant)

pub returns : goal.returns
returns c = is_done line_at c.loop.lines.items c.args.count c.loop.counter c.loop.input
    (many_at line_at c.args.count c.args.input.now) c.loop-test.false c.loop.invariant
