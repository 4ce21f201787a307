use Rattle.std.proofs.Common.{◌≡◌, ◌-◌, false}
use Rattle.ad_engine_store.specs.Standing.{StandsIn}
use Rattle.cmd_store_open.specs.Ready.{IsReady}
use Rattle.cmd_store_serve.proofs.serving.Loop.{IsServing}
use Rattle.cmd_store_serve.proofs.frames.serve_frames.Given as goal

-- the frames that were served so far, since any earlier moment, and how many more may come
abbrev pub invariant-loop : goal.invariant-loop
invariant-loop g l =
    let s = g.S.Site in
    record {
      stands : StandsIn l.engine (s.reads l.site) (s.now l.site) (s.left l.site);
      unspent : l.engine.spent ≡ false;
      since : (old : _) → IsReady s l.fn.engine.dir old l.fn.site
          → IsServing g.I.Source s l.fn.source l.source old l.site l.engine (1000000 - l.counter);
    }
