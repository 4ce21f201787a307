use Rattle.std.proofs.Common.{Result, subst, arith}
use Rattle.ad_bytes.specs.Reading.{GivesUnless}
use Rattle.ad_ids.specs.declared.token.Token.{Token}
use Rattle.ad_ids.specs.declared.token_fault.TokenFault.{TokenFault}
use Rattle.ad_ids.specs.TokenReading.{is_memory}
use Rattle.ad_ids.proofs.TokenCodec.{is_found, token_again}
use Rattle.ad_ids.proofs.token.Token.from_bytes.Goals as goal

pub returns-clause-found : goal.returns-clause-found
returns-clause-found c = is_found c.args.bytes.now c.whole.result (λ i. omega (arith, c.type_inv.bytes i))
    c.whole.ensures

pub returns-clause-only : goal.returns-clause-only
returns-clause-only c = λ token s. subst (λ (r : Result Token TokenFault). GivesUnless is_memory (λ (t : Token). t)
    c.whole.result r) (token_again c.args.bytes.now token s) c.whole.ensures
