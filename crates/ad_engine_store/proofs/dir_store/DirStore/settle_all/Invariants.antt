use Rattle.ad_dir_model.specs.Steps.{work}
use Rattle.ad_engine_store.specs.Stepping.{IsSettling}
use Rattle.ad_engine_store.proofs.dir_store.DirStore.settle_all.Given as goal

abbrev pub invariant-loop-n : goal.invariant-loop-n
invariant-loop-n g l = IsSettling g.S.Site l.fn.self l.self l.fn.site l.site l.total

abbrev pub decreases-loop-n : goal.decreases-loop-n
decreases-loop-n g l = work l.self.dir
