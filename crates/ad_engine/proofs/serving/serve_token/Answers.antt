use Rattle.std.proofs.Common.{◌∙◌, ap}
use Rattle.ad_ids.specs.declared.token.Token.{Token}
use Rattle.ad_engine_store.specs.Tokens.{with_token}
use Rattle.ad_engine.proofs.serving.serve_token.Goals as goal

pub returns-clause-tokens : goal.returns-clause-tokens
returns-clause-tokens c = c.in_ok-set.ensures
    ∙ ap (λ (t : Token). with_token c.args.connection t c.args.engine.now.tokens) c.in_ok-token.ensures
