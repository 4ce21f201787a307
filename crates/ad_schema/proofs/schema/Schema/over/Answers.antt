use Rattle.std.proofs.Common.{length, sym, ap, ◌∙◌, arith}
use Rattle.ad_schema.specs.declared.line.SchemaKind.TheVariants.{Attribute}
use Rattle.ad_schema.specs.Attributes.{names_of}
use Rattle.ad_schema.specs.Classes.{cn_of}
use Rattle.ad_schema.specs.Links.{links_of}
use Rattle.ad_schema.proofs.schema.Schema.over.Goals as goal

pub tables_of-requires-clause-links : goal.tables_of-requires-clause-links
tables_of-requires-clause-links c = c.as_slice-2.ensures.value ∙ c.requires.links
    ∙ ap links_of (sym c.as_slice.ensures.value)

pub tables_of-requires-clause-few : goal.tables_of-requires-clause-few
tables_of-requires-clause-few c = rw c.as_slice-2.ensures.value c.requires.few

pub tables_of-requires-clause-cn : goal.tables_of-requires-clause-cn
tables_of-requires-clause-cn c = rw c.as_slice.ensures.value c.requires.cn

pub invariant_of-result : goal.invariant_of-result
invariant_of-result c = record {
  infos = rw c.as_slice.ensures.value at c.in_ok-tables.ensures.infos;
  links = record {
    attr_names_are = c.requires.attrs;
    class_names_are = c.requires.classes;
    right_keys_are
        = c.requires.rights;
    links_are = c.requires.links;
  };
  rows = rw c.as_slice.ensures.value at c.in_ok-tables.ensures.rows;
  schema = c.requires.schema;
}
