use Rattle.ad_engine_store.proofs.TokenLaws.{cleared, none_there}
use Rattle.ad_engine_store.proofs.tokens.clear.Goals as goal

pub returns-then-place-items : goal.returns-then-place-items
returns-then-place-items c = cleared c.args.place c.args.items.now c.if-place-items.true

pub returns-else-place-items : goal.returns-else-place-items
returns-else-place-items c = none_there c.args.place c.args.items.now c.if-place-items.false
