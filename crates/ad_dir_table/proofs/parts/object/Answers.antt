use Rattle.ad_dir_table.specs.Entry.{objects_in}
use Rattle.ad_dir_table.specs.Fields.{entries_of, sd_of}
use Rattle.ad_dir_table.proofs.PoolLaws.{object_told}
use Rattle.ad_dir_table.proofs.parts.object.Goals as goal

pub returns-in-Some : goal.returns-in-Some
returns-in-Some c =
    object_told c.in-Some.kept.now.object (sd_of c.args.parts.now.pool.live c.in-Some.kept.now.id.0)
    (objects_in (entries_of c.args.parts.now)) c.args.number (c.in-Some.ensures.found c.args.parts.now.pool.live)
