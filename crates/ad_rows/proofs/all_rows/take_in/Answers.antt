use Rattle.std.proofs.Common.{◌∙◌, ◌+◌, [], drop, refl, sym}
use Rattle.std.specs.Option.{option_copied}
use Rattle.std.proofs.lemmas.List.{at_drop_all}
use Rattle.std.proofs.lemmas.Result.{err_from_is_err_and}
use Rattle.ad_rows.specs.Taking.{parts_of, with_rows}
use Rattle.ad_rows.proofs.Loops.{here, if_all, rows_stop, rows_on, rows_end}
use Rattle.ad_rows.proofs.all_rows.take_in.Goals as goal

pub loop-row-init : goal.loop-row-init
loop-row-init c = (if_all _ (option_copied c.args.schema) (λ s has. has), refl)

pub returns-in_err-take_row-clause-parts : goal.returns-in_err-take_row-clause-parts
returns-in_err-take_row-clause-parts c =
    let schema = option_copied c.args.schema in
    let rows = c.args.rows.now in
    let parts = parts_of c.loop-row.taken in
    let total = with_rows schema (parts_of c.args.taken.now) rows in
    let i = c.loop-row.row-index in
    let p = err_from_is_err_and c.from_residual.result c.from_residual.ensures.1 in
    rw (p.1, p.2) (λ not_memory. rows_stop schema (drop (i + 1) rows) parts c.row-item.result
    c.in_err-take_row.field-0.0 total (c.in_err-take_row.ensures.parts not_memory)
    (here (with_rows schema parts) rows i c.row-item.result total c.loop-row-test.true c.row-item.is
    c.loop-row.invariant.1))

pub loop-row-preserved : goal.loop-row-preserved
loop-row-preserved c =
    let schema = option_copied c.args.schema in
    let rows = c.args.rows.now in
    let old = c.loop-row.taken in
    let x = c.row-item.result in
    let total = with_rows schema (parts_of c.args.taken.now) rows in
    let i = c.loop-row.row-index in
    rows_on schema (drop (i + 1) rows) c.args.taken.now old c.take_row.new.taken x total c.loop-row.invariant.0
    c.in_ok-take_row.ensures.taken c.in_ok-take_row.ensures.parts
    (here (with_rows schema (parts_of old)) rows i x total c.loop-row-test.true c.row-item.is c.loop-row.invariant.1)

pub returns-clause-parts : goal.returns-clause-parts
returns-clause-parts c =
    let schema = option_copied c.args.schema in
    let rows = c.args.rows.now in
    let parts = parts_of c.loop-row.taken in
    rows_end schema [] parts (with_rows schema (parts_of c.args.taken.now) rows) refl
    (sym (at_drop_all (with_rows schema parts) rows c.loop-row.row-index c.loop-row-test.false)
    ∙ c.loop-row.invariant.1)
