use Rattle.ad_dir.proofs.NameLaws.{parent_is_live}
use Rattle.ad_needs.proofs.renaming.new_parent.Goals as goal

pub returns-in-None-clause-live : goal.returns-in-None-clause-live
returns-in-None-clause-live c = λ below. parent_is_live c.args.dir.now c.args.number c.live_object.result.now
    c.invariants.ensures c.requires.live c.live_object.ensures below
