use Rattle.std.proofs.Common.{sym, subst}
use Rattle.ad_prop.specs.declared.turning.Turn.{Turn}
use Rattle.ad_prop.specs.Step.{turn_edits}
use Rattle.ad_engine_store.specs.Stepping.{Makes}
use Rattle.ad_engine_store.proofs.Making.{makes_none}
use Rattle.ad_engine_store.proofs.stepping.take.Goals as goal

pub returns-in-Head : goal.returns-in-Head
returns-in-Head c =
    let dir = c.args.dir.now in
    let rows = c.args.batch.now in
    subst (λ (turn : Turn). Makes (turn_edits dir turn) dir dir rows rows) (sym c.in-Head.is) (makes_none dir rows)
