use Rattle.std.proofs.Common.{length, refl, ap, ◌∙◌, arith}
use Rattle.ad_schema.proofs.SchemaLemmas.{length-links, classes_made, rows_made}
use Rattle.ad_schema.proofs.schema.tables_of.Goals as goal

pub read_classes-requires : goal.read_classes-requires
read_classes-requires c = omega (arith, length-links c.args.records.now, ap length c.requires.links, c.requires.few)

pub returns-clause-infos : goal.returns-clause-infos
returns-clause-infos c = record {
  attrs_are = c.in_ok-attrs.ensures;
  classes_are = c.in_ok-classes.ensures ∙ classes_made c.args.records.now c.args.records.now c.args.links.now
      c.args.cn refl c.requires.links c.requires.cn;
  rights_are = c.in_ok-rights.ensures;
}

pub returns-clause-rows : goal.returns-clause-rows
returns-clause-rows c =
    rows_made c.args.records.now c.args.links.now _ c.args.cn c.in_ok-rows.rows.items c.requires.links
    (ap length (c.as_slice.ensures.value ∙ c.in_ok-attrs.ensures)) c.requires.cn c.in_ok-rows.ensures.len
    c.in_ok-rows.ensures.rows
