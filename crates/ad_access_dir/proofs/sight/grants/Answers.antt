use Rattle.std.proofs.Common.{arith}
use Rattle.ad_access.proofs.RightsOf.{asked_alone}
use Rattle.ad_types.specs.Path.{guids_of}
use Rattle.ad_access_dir.specs.Sight.{is_granted}
use Rattle.ad_access_dir.proofs.OwnRight.{mapped_own}
use Rattle.ad_access_dir.proofs.sight.grants.Goals as goal

pub returns : goal.returns
returns c = λ bit is less. asked_alone c.granted.result c.args.right bit
    (is_granted c.args.dir.now c.args.token.now c.args.number (guids_of c.args.path.now)) is (omega arith)
    (mapped_own c.args.right bit is less) c.granted.ensures
