use Rattle.std.proofs.Common.{subst, ◌∙◌}
use Rattle.std.specs.Prelude.{IfOk}
use Rattle.std.specs.Option.{option_copied}
use Rattle.ad_sd.specs.declared.parts.Sd.{Sd}
use Rattle.ad_sd.specs.Normal.{SpellsNormal}
use Rattle.ad_sd.specs.Seen.{seen}
use Rattle.ad_change.proofs.AddMay.{whole_made}
use Rattle.ad_change.proofs.new_object.new_descriptor.Goals as goal

pub returns : goal.returns
returns c =
    subst (λ (x : Sd). IfOk c.normal.result (λ v. SpellsNormal x v.items))
    (c.in_ok-made.ensures ∙ whole_made c.args.dir.now c.args.token.now c.args.parent c.args.class.0 c.args.sd.now
    (option_copied c.as_ref.result)
    (seen c.live_sd-above.result) c.in_ok-default.default c.guid_of-guid.result c.schema-schema.result.now
    (option_copied c.self_sid.result)
    c.live_sd-above.ensures c.as_ref.ensures.value c.schema-schema.ensures c.self_sid.ensures c.in_ok-default.ensures
    c.guid_of-guid.ensures)
    c.normal.ensures
