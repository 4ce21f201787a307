use Rattle.std.proofs.Common.{◌+◌, ◌^◌, refl, arith}
use Rattle.std.specs.Option.{option_copied}
use Rattle.ad_acl.specs.Mask.{has_bit, list_children, list_object}
use Rattle.ad_sd.specs.Seen.{seen}
use Rattle.ad_access.specs.Visible.{grants_on_object}
use Rattle.ad_access.proofs.RightsOf.{asked_among}
use Rattle.ad_access.proofs.visible.listing.Goals as goal

pub returns-clause-children : goal.returns-clause-children
unfolding has_bit
returns-clause-children c = asked_among c.granted_on-rights.result (2 ^ list_children + 2 ^ list_object) list_children
    (grants_on_object (seen c.args.view.now) c.args.token.now (option_copied c.args.self_sid)) (omega arith) refl
    c.granted_on-rights.ensures

pub returns-clause-object : goal.returns-clause-object
unfolding has_bit
returns-clause-object c = asked_among c.granted_on-rights.result (2 ^ list_children + 2 ^ list_object) list_object
    (grants_on_object (seen c.args.view.now) c.args.token.now (option_copied c.args.self_sid)) (omega arith) refl
    c.granted_on-rights.ensures
