use Rattle.std.proofs.Common.{List, ap, ◌∙◌}
use Rattle.std.specs.Prelude.{slice_get}
use Rattle.std.specs.Option.{option_and_then}
use Rattle.ad_schema.specs.declared.line.SchemaRecord.{SchemaRecord}
use Rattle.ad_schema.specs.Attributes.{right_of}
use Rattle.ad_schema.proofs.SchemaLemmas.{right_is}
use Rattle.ad_schema.proofs.schema.Schema.right.Goals as goal

pub returns : goal.returns
returns c =
    c.right_at.ensures
    ∙ ap (option_and_then (slice_get c.as_slice.result.now)) c.find_exact.ensures
    ∙ right_is c.self.inside.records.items c.self.inside.right_keys c.as_slice.result.now c.args.guid.now
    c.self.invariant.links.right_keys_are (c.as_slice.ensures.value ∙ c.self.invariant.infos.rights_are)
    ∙ ap (λ (rs : List SchemaRecord). right_of rs c.args.guid.now) c.self.view_is
