use Rattle.std.proofs.Common.{refl, ◌∙◌}
use Rattle.ad_value.proofs.Results.{ok_same}
use Rattle.ad_value.proofs.FormLaws.{name_read}
use Rattle.ad_value.proofs.forms.name.Goals as goal

pub returns : goal.returns
returns c =
    rw (c.in_ok-with_key.ensures) (name_read c.args.bytes.now c.args.bytes.now c.as_slice.result.now c.in-Ok.dn
    c.in-Ok.ensures.found
    (λ other spelled. ok_same _ other c.in-Ok.dn refl (c.in-Ok.ensures.only other spelled))
    refl
    (c.as_slice.ensures.value ∙ c.in_ok-key.ensures))
