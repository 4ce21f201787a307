use Rattle.ad_dir_table.proofs.PoolLaws.{ids_same}
use Rattle.ad_dir_table.proofs.parts.is_same.Goals as goal

pub returns : goal.returns
returns c =
    ids_same c.args.parts.now.pool.live c.in-Some-Some.a.0 c.in-Some-Some.b.0 _ _ c.is_one.ensures.distinct
    c.in-Some-Some.ensures.live c.in-Some-Some.ensures'.live c.in-Some-Some.ensures.bytes
    c.in-Some-Some.ensures'.bytes
