use Rattle.ad_acl.proofs.KeptFlags.{kept-clear}
use Rattle.ad_acl.proofs.entry.kept_flags.Goals as goal

pub returns-clause-clear : goal.returns-clause-clear
returns-clause-clear c = kept-clear c.args.flags c.ranges.flags.fits
