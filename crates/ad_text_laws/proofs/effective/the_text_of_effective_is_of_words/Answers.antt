use Rattle.ad_text_laws.proofs.EffectiveLaws.{effective_words}
use Rattle.ad_text_laws.proofs.effective.the_text_of_effective_is_of_words.Goals as goal

pub returns : goal.returns
returns c = effective_words
