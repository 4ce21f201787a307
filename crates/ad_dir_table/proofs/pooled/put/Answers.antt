use Rattle.ad_dir_table.proofs.LiveLaws.{put_adds}
use Rattle.ad_dir_table.proofs.pooled.put.Goals as goal

pub returns-in-Ok-clause-ok : goal.returns-in-Ok-clause-ok
returns-in-Ok-clause-ok c = put_adds c.args.pool.now c.put.new.self c.in-Ok.id.0 c.args.bytes.now c.is_one.ensures
    c.in-Ok.ensures.again c.in-Ok.ensures.put
