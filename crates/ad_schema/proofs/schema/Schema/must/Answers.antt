use Rattle.std.proofs.Common.{List, ◌<◌, length, sym, ap, subst, ◌∙◌, arith}
use Rattle.ad_schema.specs.declared.line.SchemaRecord.{SchemaRecord}
use Rattle.ad_schema_classes.specs.declared.rows.ClassRows.{ClassRows}
use Rattle.ad_schema.specs.Attributes.{attrs_of}
use Rattle.ad_schema.specs.Classes.{classes_of, is_must}
use Rattle.ad_schema_classes.specs.Rows.{must_in}
use Rattle.ad_schema.proofs.SchemaLemmas.{must_is, length-links, length-classes}
use Rattle.ad_schema.proofs.schema.Schema.must.Goals as goal

pub must_in-requires : goal.must_in-requires
must_in-requires c =
    let rows = c.self.inside.records.items in
    let low = subst (λ (rs : List SchemaRecord). c.args.class.0 < length (classes_of rs)) (sym c.self.view_is)
    c.requires.class in
    rw c.as_slice.ensures.value (omega (arith, low, c.self.invariant.rows.long, length-links rows, length-classes rows))

pub returns : goal.returns
returns c =
    let class = c.args.class.0 in
    let attr = c.args.attr.0 in
    let low = subst (λ (rs : List SchemaRecord). class < length (classes_of rs)) (sym c.self.view_is) c.requires.class
    in
    let high = subst (λ (rs : List SchemaRecord). attr < length (attrs_of rs)) (sym c.self.view_is) c.requires.attr in
    c.must_in.ensures
    ∙ ap (λ (rows : List ClassRows). must_in rows class attr) c.as_slice.ensures.value
    ∙ must_is c.self.inside.records.items c.self.inside.rows.items class attr c.self.invariant.rows low high
    ∙ ap (λ (rs : List SchemaRecord). is_must rs class attr) c.self.view_is
