use Rattle.std.proofs.Common.{[], ◌∷◌, ◌∙◌}
use Rattle.ad_ids.specs.SidValue.{SidValue, same_sid_laws}
use Rattle.ad_acl.specs.EntrySeen.{entry_seen}
use Rattle.ad_ids.proofs.SidBegun.{read_as}
use Rattle.ad_access.proofs.matching.may_be_for_known.Goals as goal

pub returns : goal.returns
returns c = λ authority word e.
    let known : SidValue = record { authority = authority; sub_authorities = word ∷ [] } in
    let sid : SidValue = (entry_seen c.args.ace.now).sid in
    c.may_be_well_known.ensures authority word
    (read_as c.from_sid.result.now known sid c.from_sid.ensures.0 c.from_sid.ensures.1 ∙ same_sid_laws.symm known
    sid ∙ e)
