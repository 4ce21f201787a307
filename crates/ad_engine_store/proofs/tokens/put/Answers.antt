use Rattle.std.proofs.Common.{◌∙◌, ◌+◌, ◌-◌, List, Option, Some, length, set, ap, arith}
use Rattle.ad_ids.specs.declared.token.Token.{Token}
use Rattle.ad_engine_store.proofs.TokenLaws.{put_at}
use Rattle.ad_engine_store.proofs.tokens.put.Goals as goal

pub returns : goal.returns
returns c =
    ap (λ (ts : List (Option Token)). set ts c.args.place (Some c.args.token)) c.in_ok-pad.ensures
    ∙ put_at c.args.place (c.args.place + 1 - length c.args.items.now.items) c.args.token c.args.items.now.items
    (omega arith)
