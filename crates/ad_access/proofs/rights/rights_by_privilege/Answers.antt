use Rattle.ad_acl.proofs.MaskLaws.{has_bit-and, has_bit-or, masked}
use Rattle.ad_access.specs.Privileges.{security, take_ownership}
use Rattle.ad_access.proofs.BitTests.{has_bit-system, has_bit-write_owner}
use Rattle.ad_access.proofs.rights.rights_by_privilege.Goals as goal

pub returns : goal.returns
returns c = λ bit lt.
    simp (
      has_bit-and,
      has_bit-or,
      c.rights_if-system.ensures bit,
      c.rights_if-owner.ensures bit,
      has_bit-system bit
          lt,
      has_bit-write_owner bit lt,
      masked c.args.privileges security,
      masked c.args.privileges take_ownership,
    )
