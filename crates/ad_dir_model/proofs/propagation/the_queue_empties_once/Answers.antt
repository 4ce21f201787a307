use Rattle.ad_dir_model.proofs.WorkLaws.{empties, empties_once}
use Rattle.ad_dir_model.proofs.propagation.the_queue_empties_once.Goals as goal

pub returns-clause-within : goal.returns-clause-within
returns-clause-within c = λ dir sound. let found = empties dir sound in (found.after, found.within, found.empties)

pub returns-clause-once : goal.returns-clause-once
returns-clause-once c = empties_once
