use Rattle.gate_log.proofs.Single.{one_list, none_empty}
use Rattle.gate_log.proofs.laws.one_list.Goals as goal

pub returns-clause-one : goal.returns-clause-one
returns-clause-one c = one_list

pub returns-clause-none : goal.returns-clause-none
returns-clause-none c = none_empty
