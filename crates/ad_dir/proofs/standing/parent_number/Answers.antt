use Rattle.ad_dir.proofs.StepsUp.{parent_found, none_found_parent}
use Rattle.ad_dir.proofs.standing.parent_number.Goals as goal

pub returns-in-Some : goal.returns-in-Some
returns-in-Some c = parent_found c.args.dir.now c.args.number _ c.in-Some.ensures

pub returns-in-None : goal.returns-in-None
returns-in-None c = none_found_parent c.args.dir.now c.args.number c.in-None.ensures
