use Rattle.prop_queue.proofs.Distinct.{distinct-marked, distinct-without}
use Rattle.prop_queue.proofs.laws.parents_stay_distinct.Goals as goal

pub returns-clause-marking : goal.returns-clause-marking
returns-clause-marking c = distinct-marked

pub returns-clause-removing : goal.returns-clause-removing
returns-clause-removing c = distinct-without
