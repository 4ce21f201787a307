use Rattle.std.proofs.Common.{◌∙◌, Bool, Some, None, sym, ap, if◌then◌else◌}
use Rattle.ad_rows.specs.Taking.{records_among}
use Rattle.ad_rows.proofs.Loops.{pass_stop, pass_on, pass_end}
use Rattle.ad_rows.proofs.taking.pass_all.Goals as goal

pub returns-then-not-branch-clause-records : goal.returns-then-not-branch-clause-records
returns-then-not-branch-clause-records c =
    sym (pass_stop c.args.rows.now c.loop-row.row-index c.loop-row.builder c.row-item.result
    (records_among c.args.builder.now c.args.rows.now) c.loop-row-test.true c.row-item.is
    (c.in_ok-pass.ensures.records ∙ ap (λ (b : Bool). if b then Some c.pass.new.builder else None)
    c.if-not-branch.true) c.loop-row.invariant)

pub loop-row-preserved : goal.loop-row-preserved
loop-row-preserved c =
    pass_on c.args.rows.now c.loop-row.row-index c.loop-row.builder c.pass.new.builder c.row-item.result
    (records_among c.args.builder.now c.args.rows.now) c.loop-row-test.true c.row-item.is
    (c.in_ok-pass.ensures.records ∙ ap (λ (b : Bool). if b then Some c.pass.new.builder else None)
    c.if-not-branch.false) c.loop-row.invariant

pub returns-clause-records : goal.returns-clause-records
returns-clause-records c = sym (pass_end c.args.rows.now c.loop-row.row-index c.loop-row.builder
    (records_among c.args.builder.now c.args.rows.now) c.loop-row-test.false c.loop-row.invariant)
