use Rattle.std.proofs.Common.{Bool, ◌||◌, ap, ◌∙◌}
use Rattle.std.specs.Option.{option_copied}
use Rattle.ad_acl.specs.Mask.{has_bit}
use Rattle.ad_acl.proofs.MaskLaws.{has_bit-or}
use Rattle.ad_sd.specs.Seen.{seen}
use Rattle.ad_access.specs.Grant.{granted_to_holders}
use Rattle.ad_access.proofs.grant.granted_on.Goals as goal

pub returns : goal.returns
returns c = λ bit lt.
    let sd = seen c.args.view.now in
    let by = c.split_wanted-asked.result.by_privilege in
    let holders : Bool = granted_to_holders sd.owner sd.dacl.entries c.args.token.now (option_copied c.args.self_sid)
    c.args.path.now bit in
    has_bit-or by c.granted_to_holders.result bit
    ∙ ap (λ (b : Bool). has_bit by bit || b) (c.granted_to_holders.ensures bit lt)
    ∙ c.split_wanted-asked.ensures bit holders lt
