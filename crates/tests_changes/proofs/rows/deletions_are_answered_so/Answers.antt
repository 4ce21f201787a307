use Rattle.tests_changes.specs.Deletions.{no_name, not_there, not_the_root, not_without_a_need, not_with_children}
use Rattle.tests_changes.proofs.rows.deletions_are_answered_so.Goals as goal

pub returns-clause-no_name : goal.returns-clause-no_name
returns-clause-no_name c = no_name

pub returns-clause-not_there : goal.returns-clause-not_there
returns-clause-not_there c = not_there

pub returns-clause-not_the_root : goal.returns-clause-not_the_root
returns-clause-not_the_root c = not_the_root

pub returns-clause-not_without_a_need : goal.returns-clause-not_without_a_need
returns-clause-not_without_a_need c = not_without_a_need

pub returns-clause-not_with_children : goal.returns-clause-not_with_children
returns-clause-not_with_children c = not_with_children
