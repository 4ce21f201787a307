use Rattle.ad_engine_laws.proofs.Leaving.{read_leaves, question_leaves, idle_leaves, same_leaves}
use Rattle.ad_engine_laws.proofs.refusing.what_changes_nothing.Goals as goal

pub returns-clause-reads : goal.returns-clause-reads
returns-clause-reads c = read_leaves

pub returns-clause-questions : goal.returns-clause-questions
returns-clause-questions c = question_leaves

pub returns-clause-idle : goal.returns-clause-idle
returns-clause-idle c = idle_leaves

pub returns-clause-same : goal.returns-clause-same
returns-clause-same c = same_leaves
