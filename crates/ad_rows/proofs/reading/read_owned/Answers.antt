use Rattle.std.proofs.Common.{List, sym, subst}
use Rattle.std.proofs.lemmas.Result.{err_from_is_err_and}
use Rattle.row_store.specs.declared.row.Row.{Row}
use Rattle.row_store.specs.Table.{AreListed, table_of}
use Rattle.ad_rows.specs.declared.fault.RowFault.{RowFault}
use Rattle.ad_rows.specs.Faults.{of_row}
use Rattle.ad_rows.specs.Refusal.{IsRefusal}
use Rattle.ad_rows.specs.Reading.{IsReading}
use Rattle.ad_rows.proofs.Answering.{refused_so}
use Rattle.ad_rows.proofs.reading.read_owned.Goals as goal

pub returns-in_err-views : goal.returns-in_err-views
returns-in_err-views c =
    let rows = c.args.rows.now in
    let p = err_from_is_err_and c.from_residual.result c.from_residual.ensures.1 in
    refused_so (table_of rows) c.in_err-views.field-0.0 p.0 c.from_residual.result p.1 p.2
    (subst (λ (e : RowFault). IsRefusal (table_of rows) (of_row e)) (sym c.in_err-views.ensures.fault) tt)
