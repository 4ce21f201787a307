use Rattle.ad_search_laws.proofs.Unseen.{same_effect}
use Rattle.ad_search_laws.proofs.refusals.a_change_of_what_is_not_seen_tells_what_a_search_tells.Goals as goal

pub returns : goal.returns
returns c = λ dir other token op settings sound sound_there schema same about. same_effect dir other token sound
    sound_there same op settings about
