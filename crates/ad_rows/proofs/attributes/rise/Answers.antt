use Rattle.std.proofs.Common.{◌<◌, ◌≤◌, ℕ, subst}
use Rattle.ad_dir_objects.specs.Seen.{held_seen}
use Rattle.ad_rows.proofs.Loops.{rise_cut, rise_on, rise_end}
use Rattle.ad_rows.proofs.attributes.rise.Goals as goal

pub returns-then-from-least : goal.returns-then-from-least
returns-then-from-least c =
    rise_cut held_seen c.args.all.now c.loop-held.held-index c.loop-held.least c.held-item.result
    c.loop-held-test.true c.held-item.is
    (subst (λ (n : ℕ). n < c.loop-held.least) c.from.ensures c.if-from-least.true) c.loop-held.invariant

pub loop-held-preserved : goal.loop-held-preserved
loop-held-preserved c =
    rise_on held_seen c.args.all.now c.loop-held.held-index c.loop-held.least c.next_of-least.result
    c.held-item.result c.loop-held-test.true c.held-item.is
    (subst (λ (n : ℕ). c.loop-held.least ≤ n) c.from.ensures c.if-from-least.false) c.next_of-least.ensures.value
    c.loop-held.invariant

pub returns : goal.returns
returns c = rise_end held_seen c.args.all.now c.loop-held.held-index c.loop-held.least c.loop-held-test.false
    c.loop-held.invariant
