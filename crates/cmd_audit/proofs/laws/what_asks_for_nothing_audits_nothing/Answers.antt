use Rattle.ad_engine.specs.Runs.{no_tokens}
use Rattle.cmd_audit.proofs.Fold.{quiet_from}
use Rattle.cmd_audit.proofs.laws.what_asks_for_nothing_audits_nothing.Goals as goal

pub returns : goal.returns
returns c = λ dir frames none. quiet_from c.a_list_that_asks_for_nothing_audits_nothing.ensures 1 dir no_tokens frames
    none
