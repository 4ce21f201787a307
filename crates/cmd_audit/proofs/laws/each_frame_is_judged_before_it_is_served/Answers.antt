use Rattle.ad_engine.specs.Runs.{no_tokens}
use Rattle.cmd_audit.proofs.Fold.{audit_append}
use Rattle.cmd_audit.proofs.laws.each_frame_is_judged_before_it_is_served.Goals as goal

pub returns : goal.returns
returns c = λ dir first others. audit_append 1 dir no_tokens first others
