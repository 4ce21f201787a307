use Rattle.std.proofs.Common.{[], ◌∷◌, ◌∙◌}
use Rattle.ad_ids.specs.SidValue.{SidValue, same_sid_laws}
use Rattle.ad_acl.specs.EntrySeen.{entry_seen}
use Rattle.ad_ids.proofs.SidBegun.{read_as}
use Rattle.ad_access.proofs.matching.is_for.Goals as goal

pub returns : goal.returns
returns c =
    let known : SidValue = record { authority = c.args.authority; sub_authorities = c.args.sub_authority ∷ [] } in
    let sid : SidValue = (entry_seen c.args.ace.now).sid in
    c.well_known_begins.ensures ∙ read_as c.from_sid.result.now known sid c.from_sid.ensures.0 c.from_sid.ensures.1
    ∙ same_sid_laws.symm known sid
