use Rattle.ad_ids.proofs.SidFront.{front_is_longest, no_front_spells}
use Rattle.ad_ids.proofs.text_laws.the_longest_front_is_the_longest_prefix.Goals as goal

pub returns-clause-some : goal.returns-clause-some
returns-clause-some c = front_is_longest

pub returns-clause-none : goal.returns-clause-none
returns-clause-none c = no_front_spells
