use Rattle.std.proofs.Common.{◌^◌, refl, arith}
use Rattle.ad_acl.specs.Mask.{has_bit}
use Rattle.ad_types.specs.Path.{guids_of}
use Rattle.ad_access.proofs.RightsOf.{asked_alone}
use Rattle.ad_access_dir.specs.Sight.{is_granted}
use Rattle.ad_entries.proofs.reading.reads_plain.Goals as goal

pub returns : goal.returns
unfolding has_bit
returns c = asked_alone c.granted.result (2 ^ 4) 4
    (is_granted c.args.dir.now c.args.token.now c.args.number (guids_of c.args.path.now)) refl (omega arith) refl
    c.granted.ensures
