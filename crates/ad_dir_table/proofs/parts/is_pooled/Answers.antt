use Rattle.ad_dir_table.proofs.PoolLaws.{is_pool_of}
use Rattle.ad_dir_table.proofs.parts.is_pooled.Goals as goal

pub returns : goal.returns
returns c = is_pool_of c.args.parts.now.pool c.is_one.ensures c.args.parts.now.kept.entries c.requires.shared
    c.requires.normal
