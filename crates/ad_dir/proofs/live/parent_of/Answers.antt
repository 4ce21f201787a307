use Rattle.ad_dir.proofs.NameLaws.{parent_is_live}
use Rattle.ad_dir.proofs.live.parent_of.Goals as goal

pub returns-clause-live : goal.returns-clause-live
returns-clause-live c = parent_is_live c.args.dir.now c.args.number c.live_object.result.now c.invariants.ensures
    c.requires.live c.live_object.ensures c.requires.below
