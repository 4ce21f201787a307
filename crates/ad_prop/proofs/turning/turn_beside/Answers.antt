use Rattle.std.proofs.Common.{sym}
use Rattle.ad_prop.proofs.StepLaws.{none_pending}
use Rattle.ad_prop.proofs.turning.turn_beside.Goals as goal

pub returns-in-None-clause-made : goal.returns-in-None-clause-made
returns-in-None-clause-made c = none_pending c.args.queue.now (sym c.in-None.ensures)
