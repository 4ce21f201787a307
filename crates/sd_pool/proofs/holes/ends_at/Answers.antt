use Rattle.std.proofs.Common.{sym}
use Rattle.sd_pool.proofs.HoleLists.{ends_cons, ends_none}
use Rattle.sd_pool.proofs.holes.ends_at.Goals as goal

pub returns-then-holes-place : goal.returns-then-holes-place
returns-then-holes-place c = sym (ends_none c.args.block c.args.place c.args.holes.now c.if-holes-place.true)

pub returns : goal.returns
returns c = sym (ends_cons c.args.block c.args.place c.args.holes.now (record { block = 0; end = 0 })
    c.if-holes-place.false)
