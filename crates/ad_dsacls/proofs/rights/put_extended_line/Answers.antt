use Rattle.std.proofs.Common.{codes}
use Rattle.ad_acl.specs.Codes.{right_codes}
use Rattle.ad_sddl.specs.Canonical.{codes_text}
use Rattle.ad_types.specs.Path.{guids_of}
use Rattle.ad_dsacls.specs.Effective.{line_of, extended_line}
use Rattle.ad_access_dir.specs.Labels.{label_of, right_title}
use Rattle.ad_dsacls.proofs.EffectiveLaws.{put_as, extended_is}
use Rattle.ad_dsacls.proofs.rights.put_extended_line.Goals as goal

pub returns : goal.returns
returns c =
    put_as c.put_right.result c.args.out.now.items c.put_right.new.out.items
    (line_of (label_of (codes "right ") (right_title c.args.right.now)) (codes_text right_codes c.mask_on-mask.result))
    (extended_line c.args.dir.now c.args.token.now c.args.number c.args.right.now)
    (extended_is c.args.dir.now c.args.token.now c.args.number c.mask_on-mask.result c.args.right.now
    (guids_of c.one.result) c.one.ensures c.mask_on-mask.ensures) c.put_right.ensures
