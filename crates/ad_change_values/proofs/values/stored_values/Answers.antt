use Rattle.std.proofs.Common.{List, sym, ap, ◌∙◌}
use Rattle.ad_schema.specs.declared.line.SchemaRecord.{SchemaRecord}
use Rattle.ad_schema.specs.Meaning.{attr_is_link}
use Rattle.ad_change_values.proofs.SentLaws.{all_are_plain}
use Rattle.ad_change_values.proofs.values.stored_values.Goals as goal

pub returns : goal.returns
returns c =
    all_are_plain c.args.dir.now c.args.attr.0 c.args.sent.now c.args.read c.in_ok-stored.stored
    (sym (c.is_link.ensures ∙ ap (λ (s : List SchemaRecord). attr_is_link s c.args.attr.0) c.schema.ensures)
    ∙ c.if-is_link.false)
    c.requires.read c.in_ok-stored.ensures
