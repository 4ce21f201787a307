use Rattle.std.proofs.Common.{not}
use Rattle.ad_acl.specs.EntrySeen.{entry_seen}
use Rattle.ad_access.specs.Grant.{sets_owner_rights}
use Rattle.ad_access.proofs.BitTests.{none_of}
use Rattle.ad_access.proofs.sweep.left_by.Goals as goal

pub returns-then-rights-eq0 : goal.returns-then-rights-eq0
returns-then-rights-eq0 c = λ bit. none_of c.args.rights bit (not (sets_owner_rights (entry_seen c.args.ace.now)))
    c.if-rights-eq0.true
