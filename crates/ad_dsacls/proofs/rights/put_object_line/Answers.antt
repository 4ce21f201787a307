use Rattle.std.proofs.Common.{codes}
use Rattle.ad_acl.specs.Codes.{right_codes}
use Rattle.ad_sddl.specs.Canonical.{codes_text}
use Rattle.ad_types.specs.Path.{guids_of}
use Rattle.ad_dsacls.specs.Effective.{line_of, object_line}
use Rattle.ad_dsacls.proofs.EffectiveLaws.{put_as, object_is}
use Rattle.ad_dsacls.proofs.rights.put_object_line.Goals as goal

pub returns : goal.returns
returns c =
    put_as c.put_mask.result c.args.out.now.items c.put_mask.new.out.items
    (line_of (codes "object ") (codes_text right_codes c.mask_on-mask.result))
    (object_line c.args.dir.now c.args.token.now c.args.number)
    (object_is c.args.dir.now c.args.token.now c.args.number c.mask_on-mask.result (guids_of c.empty.result)
    c.empty.ensures c.mask_on-mask.ensures) c.put_mask.ensures
