use Rattle.std.proofs.Common.{sym, subst}
use Rattle.ad_dir_model.specs.Directory.{Directory}
use Rattle.cmd_store_open.specs.Ready.{IsReady}
use Rattle.cmd_store.proofs.SettleSteps.{settled_unready}
use Rattle.cmd_store.proofs.settling.settle_opened.Goals as goal

pub returns-in-Ok : goal.returns-in-Ok
returns-in-Ok g c = λ old looks store.
    let made = c.in-Ok.ensures in
    c.settle_ready.ensures old (subst (λ (d : Directory). IsReady g.S.Site d old c.make_ready.new.site) (sym made.dir)
    (made.ready old looks store))

pub returns-in-Err : goal.returns-in-Err
returns-in-Err g c = λ old looks store.
    settled_unready g.S.Site c.args.engine.now.dir old c.make_ready.new.site c.in-Err.outcome
    (c.in-Err.ensures.failed old looks store)
