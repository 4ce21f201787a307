use Rattle.std.proofs.Common.{◌∙◌, ◌^◌, List, refl, ap, arith}
use Rattle.ad_ids.specs.declared.guid.Guid.{Guid}
use Rattle.ad_acl.specs.Mask.{has_bit}
use Rattle.ad_types.specs.Path.{guids_of}
use Rattle.ad_access.proofs.RightsOf.{asked_alone}
use Rattle.ad_access_dir.specs.Sight.{is_granted}
use Rattle.ad_entries.proofs.descriptor.reads_list.Goals as goal

pub returns : goal.returns
unfolding has_bit
returns c =
    asked_alone c.granted.result (2 ^ 17) 17
    (is_granted c.args.dir.now c.args.token.now c.args.number (guids_of c.empty.result)) refl (omega arith) refl
    c.granted.ensures
    ∙ ap (λ (path : List Guid). is_granted c.args.dir.now c.args.token.now c.args.number path 17) c.empty.ensures
