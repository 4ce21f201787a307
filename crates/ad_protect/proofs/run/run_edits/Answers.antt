use Rattle.std.proofs.Common.{sym}
use Rattle.ad_protect.proofs.Runs.{made_none}
use Rattle.ad_protect.proofs.run.run_edits.Goals as goal

pub returns-in-None : goal.returns-in-None
returns-in-None c = made_none c.args.dir.now c.new.result.items (sym c.in-None.ensures) c.new.ensures.items
