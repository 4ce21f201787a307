use Rattle.std.proofs.Common.{sym, subst}
use Rattle.sd_pool.specs.Pool.{Pool}
use Rattle.sd_pool.specs.Sharers.{IsTaken}
use Rattle.sd_pool.proofs.SharerLaws.{live_extent, given_taken}
use Rattle.ad_dir_table.proofs.pooled.give_back.Goals as goal

pub returns : goal.returns
returns c =
    let live = c.args.pool.now.live in
    let e = live_extent live c.args.id.0 c.requires in
    subst (λ (p : Pool). IsTaken live p.live c.args.id.0) (sym c.give_back.ensures)
    (given_taken live c.args.id.0 e.0 c.args.pool.now.blocks c.is_one.ensures.rise e.1)
