use Rattle.std.proofs.Common.{inl, inr, Err, subst, ap}
use Rattle.ad_dir_model.specs.Directory.{Directory}
use Rattle.ad_diff.specs.Answers.{DiffTold}
use Rattle.cmd_store_open.specs.EngineWords.{OpenFault}
use Rattle.cmd_store_open.proofs.Refusing.{inside}
use Rattle.cmd_diff.specs.Steps.{TellsOf}
use Rattle.cmd_diff.proofs.comparing.compare.Goals as goal

pub returns-in-Ok : goal.returns-in-Ok
returns-in-Ok g c = inl (record {
  second = c.in-Ok.engine.dir;
  store = c.in-Ok.ensures.opened;
  looks = c.in-Ok.ensures.outside;
  tells = subst (λ (dir : Directory). TellsOf g.S.Site DiffTold c.args.first.now dir c.args.site.now
      c.tell.new.site c.tell.result) c.dir.ensures c.tell.ensures;
})

pub returns-in-Err : goal.returns-in-Err
returns-in-Err g c = inr (record {
  fault = c.in-Err.fault;
  store = λ within. inside (g.T.Site.reads c.args.other.now) c.in-Err.fault within c.in-Err.ensures.opened;
  looks = c.in-Err.ensures.outside;
  cause = λ is. c.in-Err.ensures.cause (ap (λ (f : OpenFault). Err f) is);
  refused = c.refuse_as.ensures;
})
