use Rattle.ad_ids.proofs.TokenCodec.{fields_reader}
use Rattle.ad_ids.proofs.laws.a_token_is_read_as_spelled.Goals as goal

pub returns : goal.returns
returns c = fields_reader
