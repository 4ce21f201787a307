use Rattle.ad_engine_laws.proofs.Domain.{domain_is_sid}
use Rattle.ad_engine_laws.proofs.soundness.the_domain_of_a_sound_directory_has_its_form.Goals as goal

pub returns : goal.returns
returns c = domain_is_sid (λ sid text is. ((c.what_a_sid_s_text_spells.ensures sid text).0 is).is_sid)
