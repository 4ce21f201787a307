use Rattle.ad_ldifmod_laws.proofs.Whole.{given_sound, given_stored}
use Rattle.ad_ldifmod_laws.proofs.laws.messages_that_succeed_give_the_lists.Goals as goal

pub returns-clause-sound : goal.returns-clause-sound
returns-clause-sound c = given_sound

pub returns-clause-stored : goal.returns-clause-stored
returns-clause-stored c = given_stored
