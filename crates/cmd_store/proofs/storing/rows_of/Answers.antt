use Rattle.std.proofs.Common.{sym, subst}
use Rattle.row_store.specs.Table.{table_of}
use Rattle.ad_dir_model.specs.Directory.{Directory}
use Rattle.ad_dir_model.specs.Objects.{Rise}
use Rattle.std.proofs.lemmas.Result.{IfOk-weaker}
use Rattle.ad_rows_write.specs.Rows.{AreRowsOf}
use Rattle.cmd_store.proofs.storing.rows_of.Goals as goal

pub write_parts-requires : goal.write_parts-requires
write_parts-requires c = subst (λ (d : Directory). Rise d.objects) c.into_parts-schema.ensures c.requires.rise

pub returns : goal.returns
returns c = IfOk-weaker c.write_parts.result _ _
    (λ rows are. subst (λ (d : Directory). AreRowsOf d (table_of rows)) (sym c.into_parts-schema.ensures) are)
    c.write_parts.ensures.rows
