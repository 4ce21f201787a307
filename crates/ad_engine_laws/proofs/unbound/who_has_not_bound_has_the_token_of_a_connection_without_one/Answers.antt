use Rattle.std.proofs.Common.{ap}
use Rattle.ad_ids.specs.declared.token.Token.{Token}
use Rattle.ad_engine_store.specs.Tokens.{token_of}
use Rattle.ad_engine_laws.proofs.unbound.who_has_not_bound_has_the_token_of_a_connection_without_one.Goals as goal

pub returns : goal.returns
unfolding token_of
returns c = λ dir connection token is. ap (λ (t : Token). record t { version = 1 }) is
