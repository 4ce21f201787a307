use Rattle.ad_schema_classes.proofs.RowLemmas.{rows_are}
use Rattle.ad_schema_classes.proofs.rows.class_rows.Goals as goal

pub returns : goal.returns
returns c =
    rows_are c.args.links.now c.args.cn c.args.attrs c.args.class c.naming_of-naming.result c.in_ok-set.set.items
    c.as_slice.result.now c.as_slice-3.result.now c.as_slice-2.result.now _
    c.as_slice.ensures.value c.as_slice-3.ensures.value c.as_slice-2.ensures.value c.in_ok-set.ensures
    c.in_ok-must.ensures.row
    (λ j lt. c.in_ok-allowed.ensures j (rw (c.as_slice-2.ensures.value, c.in_ok-must.ensures.len) lt))
    c.naming_of-naming.ensures
