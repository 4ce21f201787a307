use Rattle.std.proofs.Common.{◌∙◌, sym, subst}
use Rattle.std.specs.Option.{option_copied}
use Rattle.std.proofs.lemmas.Result.{err_from_is_err_and}
use Rattle.row_store.specs.Table.{table_of}
use Rattle.ad_rows.specs.declared.fault.RowFault.{RowFault}
use Rattle.ad_rows.specs.Faults.{of_row}
use Rattle.ad_rows.specs.Refusal.{IsRefusal}
use Rattle.ad_rows.specs.Taking.{parts_of}
use Rattle.ad_rows.proofs.Answering.{row_answered, all_answered, refused_so, read_so}
use Rattle.ad_rows.proofs.reading.read_rows.Goals as goal

pub returns-in_err-schema : goal.returns-in_err-schema
returns-in_err-schema c =
    let rows = c.args.rows.now in
    let p = err_from_is_err_and c.from_residual.result c.from_residual.ensures.1 in
    refused_so (table_of rows) c.in_err-schema.field-0.0 p.0 c.from_residual.result p.1 p.2
    (subst (λ (e : RowFault). IsRefusal (table_of rows) (of_row e)) (sym c.in_err-schema.ensures.fault) tt)

pub returns-in_err-taken : goal.returns-in_err-taken
returns-in_err-taken c =
    let rows = c.args.rows.now in
    let p = err_from_is_err_and c.from_residual-in_err-taken.result c.from_residual-in_err-taken.ensures.1 in
    let schema = c.as_ref.ensures.value ∙ c.in_ok-schema.ensures.schema in
    refused_so (table_of rows) c.in_err-taken.field-0.0 p.0 c.from_residual-in_err-taken.result p.1 p.2
    (row_answered rows (option_copied c.as_ref.result) c.in_err-taken.field-0.0 c.requires c.rows_are_bytes.ensures
    schema c.in_err-taken.ensures.parts)

pub returns : goal.returns
returns c =
    let rows = c.args.rows.now in
    let schema = c.in_ok-schema.ensures.schema in
    let taken = c.in_ok-taken.taken in
    read_so (table_of rows) c.of_taken.result
    (all_answered rows (parts_of taken) c.in_ok-schema.schema (option_copied c.as_ref.result) taken.bad taken.last
    c.of_taken.result c.requires c.rows_are_bytes.ensures
    schema (c.as_ref.ensures.value ∙ schema) c.in_ok-taken.ensures.parts c.in_ok-taken.ensures.taken c.of_taken.ensures)
