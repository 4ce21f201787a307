use Rattle.std.proofs.Common.{codes, ap, ◌∙◌}
use Rattle.std.specs.Prelude.{filter}
use Rattle.ad_acl.specs.Codes.{right_codes}
use Rattle.ad_sddl.specs.Canonical.{codes_text}
use Rattle.ad_dsacls.specs.Effective.{line_of, is_of_set, set_line}
use Rattle.ad_access_dir.specs.Labels.{label_of, right_title}
use Rattle.ad_access_dir.proofs.AllowedLaws.{allowed_all}
use Rattle.ad_dsacls.proofs.EffectiveLaws.{put_as, set_all, set_is}
use Rattle.ad_dsacls.proofs.rights.put_set_line.Goals as goal

pub attrs_of_set-requires : goal.attrs_of_set-requires
attrs_of_set-requires c = allowed_all c.args.dir.now.schema c.args.class.0 c.args.attrs.now c.requires.allowed

pub set_mask-requires-clause-attrs : goal.set_mask-requires-clause-attrs
set_mask-requires-clause-attrs c =
    set_all c.args.dir.now.schema c.args.class.0 c.args.right.now.guid c.as_slice.result.now
    (c.as_slice.ensures.value ∙ c.in_ok-own.ensures
    ∙ ap (filter (is_of_set c.args.dir.now.schema c.args.right.now.guid)) c.requires.allowed)

pub returns : goal.returns
returns c =
    put_as c.put_right.result c.args.out.now.items c.put_right.new.out.items
    (line_of (label_of (codes "set ") (right_title c.args.right.now)) (codes_text right_codes c.in_ok-mask.mask))
    (set_line c.args.dir.now c.args.token.now c.args.number c.args.class c.args.right.now)
    (set_is c.args.dir.now c.args.token.now c.args.number c.in_ok-mask.mask c.args.class c.args.right.now
    c.as_slice.result.now
    (c.as_slice.ensures.value ∙ c.in_ok-own.ensures
    ∙ ap (filter (is_of_set c.args.dir.now.schema c.args.right.now.guid)) c.requires.allowed)
    c.in_ok-mask.ensures)
    c.put_right.ensures
