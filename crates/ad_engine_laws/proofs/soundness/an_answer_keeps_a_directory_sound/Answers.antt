use Rattle.ad_engine_laws.proofs.Staying.{steps_sound, answer_sound}
use Rattle.ad_engine_laws.proofs.soundness.an_answer_keeps_a_directory_sound.Goals as goal

pub returns-clause-answer : goal.returns-clause-answer
returns-clause-answer c = answer_sound (record {
  domain = c.the_domain_of_a_sound_directory_has_its_form.ensures;
  delete = c.a_delete_keeps_a_directory_sound.ensures;
  rename = c.a_rename_keeps_a_directory_sound.ensures;
  modify = c.a_modify_keeps_a_directory_sound.ensures;
  add = c.an_add_keeps_a_directory_sound.ensures;
  run = c.a_protection_run_keeps_a_directory_sound.ensures;
})

pub returns-clause-steps : goal.returns-clause-steps
returns-clause-steps c = λ dir n sound. steps_sound n dir sound
