use Rattle.std.proofs.Common.{refl, arith}
use Rattle.ad_acl.specs.Mask.{has_bit}
use Rattle.ad_types.specs.Path.{guids_of}
use Rattle.ad_access.proofs.RightsOf.{asked_among}
use Rattle.ad_access_dir.specs.Sight.{is_granted}
use Rattle.ad_entries.proofs.reading.read_rights.Goals as goal

pub returns-clause-plain : goal.returns-clause-plain
unfolding has_bit
returns-clause-plain c = asked_among c.granted.result 272 4
    (is_granted c.args.dir.now c.args.token.now c.args.number (guids_of c.args.path.now)) (omega arith) refl
    c.granted.ensures

pub returns-clause-control : goal.returns-clause-control
unfolding has_bit
returns-clause-control c = asked_among c.granted.result 272 8
    (is_granted c.args.dir.now c.args.token.now c.args.number (guids_of c.args.path.now)) (omega arith) refl
    c.granted.ensures
