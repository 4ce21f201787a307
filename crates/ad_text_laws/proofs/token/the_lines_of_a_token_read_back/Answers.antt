use Rattle.ad_text_laws.proofs.TokenLaws.{token_back}
use Rattle.ad_text_laws.proofs.token.the_lines_of_a_token_read_back.Goals as goal

pub returns : goal.returns
returns c = token_back
