use Rattle.std.proofs.Common.{refl}
use Rattle.ad_dir.proofs.NameLaws.{class_within}
use Rattle.ad_dir.proofs.live.class_of.Goals as goal

pub returns-clause-in_range : goal.returns-clause-in_range
returns-clause-in_range c = class_within c.args.dir.now c.args.dir.now.schema c.args.number c.live_object.result.now
    c.invariants.ensures c.requires refl c.live_object.ensures
