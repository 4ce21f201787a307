use Rattle.std.proofs.Common.{◌^◌, refl, arith}
use Rattle.std.specs.Option.{option_copied}
use Rattle.ad_acl.specs.Mask.{has_bit, list_object}
use Rattle.ad_sd.specs.Seen.{seen}
use Rattle.ad_access.specs.Visible.{grants_on_object}
use Rattle.ad_access.proofs.RightsOf.{asked_alone}
use Rattle.ad_access.proofs.visible.lists_object.Goals as goal

pub returns : goal.returns
unfolding has_bit
returns c = asked_alone c.granted_on.result (2 ^ list_object) list_object
    (grants_on_object (seen c.args.view.now) c.args.token.now (option_copied c.args.self_sid)) refl (omega arith) refl
    c.granted_on.ensures
