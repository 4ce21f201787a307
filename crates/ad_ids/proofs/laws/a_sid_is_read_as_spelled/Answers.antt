use Rattle.ad_ids.proofs.SidCodec.{sid_reader}
use Rattle.ad_ids.proofs.laws.a_sid_is_read_as_spelled.Goals as goal

pub returns : goal.returns
returns c = sid_reader
