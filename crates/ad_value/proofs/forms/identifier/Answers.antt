use Rattle.std.proofs.Common.{◌++◌, List, ℕ, ap, ◌∙◌}
use Rattle.ad_ids.specs.Sid.{sid_bytes}
use Rattle.ad_value.proofs.FormLaws.{identifier_read}
use Rattle.ad_value.proofs.forms.identifier.Goals as goal

pub returns : goal.returns
returns c =
    identifier_read c.args.bytes.now c.deref.result.now c.in-Some.sid c.as_shown.result c.in-Some.ensures.0
    c.in-Some.ensures.1
    (c.deref.ensures.value ∙ c.in_ok-append.ensures.ok ∙ ap (λ (t : List ℕ). t ++ sid_bytes c.in-Some.sid)
    c.new-shown.ensures.items)
    c.as_shown.ensures
