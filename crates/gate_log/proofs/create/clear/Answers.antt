use Rattle.std.proofs.lemmas.Result.{on_ok_weaker}
use Rattle.gate_log.proofs.Creating.{cleared}
use Rattle.gate_log.proofs.Outside.{touches_on}
use Rattle.gate_log.proofs.create.clear.Goals as goal

pub returns-clause-closed : goal.returns-clause-closed
returns-clause-closed g c =
    let s = g.S.Site in
    on_ok_weaker c.set-2.result (λ second. cleared (s.reads c.args.site.now) (s.reads c.set.new.site)
    (s.reads c.set-2.new.site) c.in_ok-set.ensures.held second) c.set-2.ensures.held

pub returns-clause-outside : goal.returns-clause-outside
returns-clause-outside g c = touches_on g.S.Site c.args.site.now c.set.new.site c.set-2.new.site c.set.ensures.outside
    c.set-2.ensures.outside
