use Rattle.std.proofs.Common.{arith}
use Rattle.ad_access.proofs.Privileges.{privileges_or_holders}
use Rattle.ad_access.proofs.rights.split_wanted.Goals as goal

pub returns : goal.returns
returns c = λ bit holders lt.
    privileges_or_holders c.args.want c.map_generic-want.result c.args.privileges
    c.rights_by_privilege-by_privilege.result bit holders (omega arith) lt (c.map_generic-want.ensures bit lt)
    (c.rights_by_privilege-by_privilege.ensures bit lt)
