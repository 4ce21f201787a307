use Rattle.ad_rights_dir.proofs.Answered.{answered}
use Rattle.ad_rights_dir.proofs.laws.what_is_told_is_what_the_rule_grants.Goals as goal

pub returns : goal.returns
returns c = λ dir right base text told rise.
    answered dir told.question told.from told.all told.parties told.tokens told.without rise told.are_parties
