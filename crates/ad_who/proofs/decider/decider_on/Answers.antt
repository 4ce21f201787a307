use Rattle.std.proofs.Common.{◌∙◌, ap}
use Rattle.ad_types.specs.Path.{guids_of}
use Rattle.ad_who.specs.Decider.{grants}
use Rattle.ad_who.proofs.Deciding.{decided_granted}
use Rattle.ad_who.proofs.decider.decider_on.Goals as goal

pub returns-clause-granted : goal.returns-clause-granted
returns-clause-granted c = λ none. ap grants c.decider_at.ensures ∙ decided_granted c.args.dir.now c.args.token.now
    c.args.number (guids_of c.args.path.now) c.args.bit none
