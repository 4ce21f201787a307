use Rattle.std.proofs.Common.{◌<◌, ◌≤◌, ◌^◌, length, ap, arith}
use Rattle.std.proofs.lemmas.Result.{on_ok_weaker}
use Rattle.gate_log.specs.Layout.{snapshot_end}
use Rattle.gate_log.proofs.Creating.{filled, length_snapshot}
use Rattle.gate_log.proofs.Outside.{touches_on}
use Rattle.gate_log.proofs.create.fill.Goals as goal

pub returns-clause-made : goal.returns-clause-made
returns-clause-made g c =
    let s = g.S.Site in
    let fits : length c.args.body.now < 2 ^ 64
    = omega (arith, c.in_ok-set.ensures.end, ap length c.requires.spelled, length_snapshot 1 c.args.body.now) in
    on_ok_weaker c.set-2.result (λ second. filled c.args.body.now (s.reads c.args.site.now) (s.reads c.set.new.site)
    (s.reads c.set-2.new.site) fits c.requires.closed (rw c.requires.spelled at c.in_ok-set.ensures.held) second)
    c.set-2.ensures.held

pub returns-clause-small : goal.returns-clause-small
returns-clause-small g c =
    let within : snapshot_end c.args.body.now ≤ 2 ^ 63
    = omega (arith, c.in_ok-set.ensures.end, ap length c.requires.spelled, length_snapshot 1 c.args.body.now) in
    on_ok_weaker c.set-2.result (λ _. within) c.set-2.ensures.held

pub returns-clause-outside : goal.returns-clause-outside
returns-clause-outside g c = touches_on g.S.Site c.args.site.now c.set.new.site c.set-2.new.site c.set.ensures.outside
    c.set-2.ensures.outside
